-- Net numbers of directed edges where a corner is put into each edge between two others.
use Rattle.std.proofs.Common.{◌≡◌, ◌≢◌, ⊎_elim, refl, sym, ◌∙◌, ap, subst, arith, Bool, true, false, ◌&&◌, ◌||◌}
use Rattle.std.proofs.Common.{if◌then◌else◌}
use Rattle.std.proofs.Common.{◌+◌, ℤ, ◌+ℤ◌, ◌-ℤ◌, ◌*ℤ◌, neg_ℤ, List, [], ◌∷◌, map}
use Rattle.std.proofs.lemmas.Int.{ints}
use lib.IntN.{pos}
use Rattle.geo_exact.specs.declared.corner.Corner.{Corner}
use Rattle.geo_exact.specs.Order.{is_same}
use Rattle.geo_exact.specs.Rings.{Edge, edges}
use Rattle.geo_exact.proofs.corners_and_turns.CornerOrder.{Decides-is_same, is_same_itself}
use Rattle.geo_exact.proofs.rings.EdgeSums.{edge_of}
use Rattle.geo_exact.proofs.numbers.Differences.{add-mul}
use Rattle.edge_chains.specs.Net.{runs_from_to, all_edges, net_of_edges, net_count}
use Rattle.edge_chains.proofs.nets.Nets.{net_of_append}
use Rattle.edge_chains.proofs.nets.Changes.{net_of_turned}
use Rattle.ring_edits.specs.Edits.{joins, put_between, with_corner}
use Rattle.ring_edits.proofs.PutEdges.{cut_one, cut_all, edges_put, joined_either}
use Rattle.ring_edits.proofs.RoundNets.{net_at_least}

-- for each time that an edge goes from u to v, the two edges through the corner come and the edge goes
abbrev pub detour : Corner → Corner → Corner → Corner → Corner → ℤ
detour u v at c d =
    (net_of_edges (edge_of u at ∷ []) c d +ℤ net_of_edges (edge_of at v ∷ []) c d) -ℤ net_of_edges (edge_of u v ∷ []) c d

-- ---- one edge
there_is : (ua av uv s : ℤ) → s ≡ pos 1 → ua +ℤ av ≡ uv +ℤ s *ℤ ((ua +ℤ av) -ℤ uv)
there_is ua av uv s h = rw h (omega (arith, ints))

back_is : (va au vu ua av uv s : ℤ) → s ≡ neg_ℤ (pos 1) → va ≡ neg_ℤ av → au ≡ neg_ℤ ua → vu ≡ neg_ℤ uv
    → va +ℤ au ≡ vu +ℤ s *ℤ ((ua +ℤ av) -ℤ uv)
back_is va au vu ua av uv s h k l m = rw h (omega (arith, ints))

nothing_is : (z s d : ℤ) → s ≡ pos 0 → z ≡ z +ℤ s *ℤ d
nothing_is z s d h = rw h (omega (arith, ints))

parted : (a at b c d : Corner)
    → net_of_edges (edge_of a at ∷ edge_of at b ∷ []) c d ≡ net_of_edges (edge_of a at ∷ []) c d +ℤ net_of_edges
    (edge_of at b ∷ []) c d
parted a at b c d = net_of_append (edge_of a at ∷ []) (edge_of at b ∷ []) c d

not_counted : (u v : Corner) (e : Edge) → joins u v e ≡ false → net_of_edges (e ∷ []) u v ≡ pos 0
not_counted u v e h = none (runs_from_to u v e) (runs_from_to v u e) h
  where
    none : (p q : Bool) → (p || q) ≡ false → pos ((if p then 1 else 0) + 0) -ℤ pos ((if q then 1 else 0) + 0) ≡ pos 0
    none true q k = cc
    none false true k = cc
    none false false k = refl

itself_once : (u v : Corner) → u ≢ v → net_of_edges (edge_of u v ∷ []) u v ≡ pos 1
itself_once u v h =
    once (is_same u u) (is_same v v) (is_same u v) (is_same v u) (is_same_itself u) (is_same_itself v) (λ e. h ((Decides-is_same u v).0 e))
  where
    once : (uu vv uv vu : Bool) → uu ≡ true → vv ≡ true → (uv ≡ true → ⊥)
        → pos ((if uu && vv then 1 else 0) + 0) -ℤ pos ((if uv && vu then 1 else 0) + 0) ≡ pos 1
    once true true true vu x y z = absurd (z refl)
    once true true false vu x y z = refl
    once true false uv vu x y z = cc
    once false vv uv vu x y z = cc

turned_once : (u v : Corner) → u ≢ v → net_of_edges (edge_of v u ∷ []) u v ≡ neg_ℤ (pos 1)
turned_once u v off = net_of_turned u v u v ∙ ap neg_ℤ (itself_once u v off)

net_one : (u v at : Corner) (e : Edge) (c d : Corner) → u ≢ v
    → net_of_edges (cut_one (joins u v e) at e) c d ≡ net_of_edges (e ∷ []) c d +ℤ net_of_edges
    (e ∷ []) u v *ℤ detour u v at c d
net_one u v at e c d off = decide (joins u v e) refl
  where
    decide : (b : Bool) → joins u v e ≡ b
        → net_of_edges (cut_one b at e) c d ≡ net_of_edges (e ∷ []) c d +ℤ net_of_edges (e ∷ []) u v *ℤ detour u v at c d
    decide true h = ⊎_elim
        (λ s. subst (λ f. net_of_edges (edge_of f.from at ∷ edge_of at f.to ∷ []) c d
        ≡ net_of_edges (f ∷ []) c d +ℤ net_of_edges (f ∷ []) u v *ℤ detour u v at c d) (sym s)
        (parted u at v c d ∙ there_is (net_of_edges (edge_of u at ∷ []) c d) (net_of_edges (edge_of at v ∷ []) c d)
        (net_of_edges (edge_of u v ∷ []) c d) (net_of_edges (edge_of u v ∷ []) u v) (itself_once u v off)))
        (λ s. subst (λ f. net_of_edges (edge_of f.from at ∷ edge_of at f.to ∷ []) c d
        ≡ net_of_edges (f ∷ []) c d +ℤ net_of_edges (f ∷ []) u v *ℤ detour u v at c d) (sym s)
        (parted v at u c d ∙ back_is (net_of_edges (edge_of v at ∷ []) c d) (net_of_edges (edge_of at u ∷ []) c d)
        (net_of_edges (edge_of v u ∷ []) c d) (net_of_edges (edge_of u at ∷ []) c d) (net_of_edges (edge_of at v ∷ []) c d)
        (net_of_edges (edge_of u v ∷ []) c d) (net_of_edges (edge_of v u ∷ []) u v) (turned_once u v off)
        (net_of_turned at v c d) (net_of_turned u at c d) (net_of_turned u v c d)))
        (joined_either u v e h)
    decide false h = nothing_is (net_of_edges (e ∷ []) c d) (net_of_edges (e ∷ []) u v) (detour u v at c d) (not_counted u v e h)

-- ---- many edges, and rings
together : (out outs ring rows s t z : ℤ) → out ≡ ring +ℤ s *ℤ z → outs ≡ rows +ℤ t *ℤ z
    → out +ℤ outs ≡ (ring +ℤ rows) +ℤ (s +ℤ t) *ℤ z
together out outs ring rows s t z h k = omega (arith, ints, add-mul s t z)

net_cut : (u v at : Corner) (es : List Edge) (c d : Corner) → u ≢ v
    → net_of_edges (cut_all u v at es) c d ≡ net_of_edges es c d +ℤ net_of_edges es u v *ℤ detour u v at c d
net_cut u v at [] c d off = nothing_is (net_of_edges [] c d) (net_of_edges [] u v) (detour u v at c d) refl
net_cut u v at (e ∷ es) c d off =
    net_of_append (cut_one (joins u v e) at e) (cut_all u v at es) c d
    ∙ together (net_of_edges (cut_one (joins u v e) at e) c d) (net_of_edges (cut_all u v at es) c d) (net_of_edges (e ∷ []) c d)
    (net_of_edges es c d) (net_of_edges (e ∷ []) u v) (net_of_edges es u v) (detour u v at c d)
    (net_one u v at e c d off) (net_cut u v at es c d off)
    ∙ ap (λ z. z +ℤ (net_of_edges (e ∷ []) u v +ℤ net_of_edges es u v) *ℤ detour u v at c d)
    (sym (net_of_append (e ∷ []) es c d))
    ∙ ap (λ z. net_of_edges (e ∷ es) c d +ℤ z *ℤ detour u v at c d) (sym (net_of_append (e ∷ []) es u v))

net_put : (u v at : Corner) (ring : List Corner) (c d : Corner) → u ≢ v
    → net_of_edges (edges (put_between u v at ring)) c d
    ≡ net_of_edges (edges ring) c d +ℤ net_of_edges (edges ring) u v *ℤ detour u v at c d
net_put u v at ring c d off = ap (λ es. net_of_edges es c d) (edges_put u v at ring) ∙ net_cut u v at (edges ring) c d off

-- rings whose net numbers change so, one by one, change so together
nets_by : (f : List Corner → List Corner) (u v at : Corner)
    → ((ring : List Corner) (c d : Corner) → net_of_edges (edges (f ring)) c d
    ≡ net_of_edges (edges ring) c d +ℤ net_of_edges (edges ring) u v *ℤ detour u v at c d)
    → (rows : List (List Corner)) (c d : Corner)
    → net_count (map f rows) c d ≡ net_count rows c d +ℤ net_count rows u v *ℤ detour u v at c d
nets_by f u v at h [] c d = nothing_is (net_count [] c d) (net_count [] u v) (detour u v at c d) refl
nets_by f u v at h (ring ∷ rows) c d =
    net_of_append (edges (f ring)) (all_edges (map f rows)) c d
    ∙ together (net_of_edges (edges (f ring)) c d) (net_count (map f rows) c d) (net_of_edges (edges ring) c d) (net_count rows c d)
    (net_of_edges (edges ring) u v) (net_count rows u v) (detour u v at c d) (h ring c d) (nets_by f u v at h rows c d)
    ∙ ap (λ z. z +ℤ (net_of_edges (edges ring) u v +ℤ net_count rows u v) *ℤ detour u v at c d)
    (sym (net_of_append (edges ring) (all_edges rows) c d))
    ∙ ap (λ z. net_count (ring ∷ rows) c d +ℤ z *ℤ detour u v at c d) (sym (net_of_append (edges ring) (all_edges rows) u v))

-- so where rows and a city had the same net numbers, they still have
kept : (f : List Corner → List Corner) (u v at : Corner) (rows : List (List Corner)) (city : List Corner) → u ≢ v
    → ((ring : List Corner) (c d : Corner) → net_of_edges (edges (f ring)) c d
    ≡ net_of_edges (edges ring) c d +ℤ net_of_edges (edges ring) u v *ℤ detour u v at c d)
    → ((c d : Corner) → net_count rows c d ≡ net_count (city ∷ []) c d)
    → (c d : Corner) → net_count (map f rows) c d ≡ net_count (put_between u v at city ∷ []) c d
kept f u v at rows city off h same c d =
    nets_by f u v at h rows c d
    ∙ ap (λ z. z +ℤ net_count rows u v *ℤ detour u v at c d) (same c d)
    ∙ ap (λ z. net_count (city ∷ []) c d +ℤ z *ℤ detour u v at c d) (same u v)
    ∙ sym (nets_by (put_between u v at) u v at (λ ring x y. net_put u v at ring x y off) (city ∷ []) c d)

pub put_nets : (u v at : Corner) (rows : List (List Corner)) (city : List Corner) → u ≢ v
    → ((c d : Corner) → net_count rows c d ≡ net_count (city ∷ []) c d)
    → (c d : Corner) → net_count (map (put_between u v at) rows) c d ≡ net_count (put_between u v at city ∷ []) c d
put_nets u v at rows city off = kept (put_between u v at) u v at rows city off (λ ring c d. net_put u v at ring c d off)

pub with_corner_nets : (u v at : Corner) (rows : List (List Corner)) (city : List Corner) → u ≢ v
    → ((c d : Corner) → net_count rows c d ≡ net_count (city ∷ []) c d)
    → (c d : Corner) → net_count (map (with_corner u v at) rows) c d ≡ net_count (put_between u v at city ∷ []) c d
with_corner_nets u v at rows city off =
    kept (with_corner u v at) u v at rows city off (λ ring c d. net_at_least (put_between u v at ring) c d ∙ net_put u v at ring c d off)
