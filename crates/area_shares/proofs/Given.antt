-- A parcel's area, shared out: the lines that are given, one by one.
use Rattle.std.proofs.Common.{◌≡◌, ℕ, ◌+◌, ◌*◌, ◌<◌, ◌≤◌, ◌∙◌, refl, sym, ap, subst, arith, Bool, true, false, map, append_assoc}
use Rattle.std.proofs.Common.{append-nil, length, get_or, drop, List, [], ◌∷◌, ◌++◌}
use Rattle.std.specs.List.{AllZip}
use Rattle.std.specs.Prelude.{int_lt}
use Rattle.std.proofs.Math.ListN.{drop_of_length-le}
use Rattle.std.proofs.lemmas.Int.{ints, by_lt_z}
use lib.IntN.{ℤ, pos, ◌+ℤ◌, ◌-ℤ◌, ◌*ℤ◌}
use lib.Signed.{◌<ℤ◌, ◌≤ℤ◌}
use Rattle.geo_exact.proofs.numbers.Dropped.{drop_item}
use Rattle.geo_exact.proofs.numbers.Polynomials.{var, lit, mul, sub, same_by}
use Rattle.geo_exact.proofs.numbers.Signs.{not_neg_of_mul}
use Rattle.common_areas.specs.Fractions.{Fraction, whole, AreEqual}
use Rattle.area_bounds.specs.declared.parts.TheConstants.{PARTS}
use Rattle.area_bounds.specs.Parts.{IsCounted}
use Rattle.area_bounds.proofs.Counts.{counted_plus, counted_zero, counted_same}
use Rattle.area_shares.specs.declared.share.Share.{Share}
use Rattle.area_shares.specs.declared.shared.AreaLine.{AreaLine}
use Rattle.area_shares.specs.Shares.{IsWithinOne, sum_of}
use Rattle.area_shares.specs.AreaTable.{pair_of}
use Rattle.area_shares.specs.own.Rounded.{
  room,
  taken,
  Term,
  sum_of_terms,
  lost_in_all,
  least_of_all,
  AreRounded,
  IsRounded,
  line_of,
  pair_with,
  AddsShares,
}

-- how many more the shares can take together
abbrev pub rooms : List Share → ℕ
rooms [] = 0
rooms (share ∷ shares) = room share.has_next + rooms shares

-- the lines of all shares but the last, where so much is left over
abbrev pub lines_of : ℕ → ℤ → List Share → List AreaLine
lines_of id rest [] = []
lines_of id rest (share ∷ shares) =
    line_of id share.zone (share.least +ℤ taken share.has_next rest) ∷ lines_of id (rest -ℤ taken share.has_next rest) shares

-- what is left over behind them
abbrev pub left_over : ℤ → List Share → ℤ
left_over rest [] = rest
left_over rest (share ∷ shares) = left_over (rest -ℤ taken share.has_next rest) shares

-- with the last one's
abbrev pub all_lines : ℕ → ℤ → List Share → Share → List AreaLine
all_lines id rest others last = lines_of id rest others ++ line_of id last.zone (last.least +ℤ left_over rest others) ∷ []

abbrev area_of : AreaLine → ℤ
area_of line = line.area2

pub pairs_of_lines : (id : ℕ) (rest : ℤ) (others : List Share) (last : Share)
    → map pair_of (all_lines id rest others last) ≡ map (pair_with id) (others ++ last ∷ [])
pairs_of_lines id rest [] last = refl
pairs_of_lines id rest (share ∷ others) last =
    ap (λ pairs. pair_with id share ∷ pairs) (pairs_of_lines id (rest -ℤ taken share.has_next rest) others last)

pub sum_of_lines : (id : ℕ) (rest : ℤ) (others : List Share) (last : Share)
    → sum_of (map area_of (all_lines id rest others last)) ≡ least_of_all (others ++ last ∷ []) +ℤ rest
sum_of_lines id rest [] last = omega (arith, ints)
sum_of_lines id rest (share ∷ others) last =
    omega (arith, ints, sum_of_lines id (rest -ℤ taken share.has_next rest) others last)

-- ---- each line is near its fraction, where what is left over is not more than the shares can take
pub record Takes (f : Fraction) (least rest more : ℤ) (n : ℕ) : Type 0 where
  pub near : IsWithinOne f (least +ℤ more)
  pub low : pos 0 ≤ℤ (rest -ℤ more)
  pub high : (rest -ℤ more) ≤ℤ pos n

moved : (f : Fraction) (number other : ℤ) → number ≡ other → IsWithinOne f number → IsWithinOne f other
moved f number other e h = subst (IsWithinOne f) e h

takes : (lost : ℕ) (f : Fraction) (least rest : ℤ) (some : Bool) (n : ℕ) → IsRounded lost f least some → pos 0 ≤ℤ rest
    → rest ≤ℤ pos (room some + n) → Takes f least rest (taken some rest) n
takes lost f least rest false n h low high = record {
  near = moved f least (least +ℤ pos 0) (omega (arith, ints)) h.is_near;
  low = omega (arith, ints);
  high = omega (arith, ints);
}
takes lost f least rest true n h low high = by_lt_z (pos 0) rest
    (λ p. let e : int_lt (pos 0) rest ≡ true = grind (arith, ints) in
    rw e (record { near = h.next_is_near refl; low = omega (arith, ints); high = omega (arith, ints) }))
    (λ p. let e : int_lt (pos 0) rest ≡ false = grind (arith, ints) in
    rw e (record {
      near = moved f least (least +ℤ pos 0) (omega (arith, ints)) h.is_near;
      low = omega (arith, ints);
      high = omega (arith, ints);
    }))

near_last : (lost : ℕ) (f : Fraction) (least rest : ℤ) (some : Bool) → IsRounded lost f least some → pos 0 ≤ℤ rest
    → rest ≤ℤ pos (room some + 0) → IsWithinOne f (least +ℤ rest)
near_last lost f least rest some h low high =
    let t = takes lost f least rest some 0 h low high in
    moved f (least +ℤ taken some rest) (least +ℤ rest) (omega (arith, ints, t.low, t.high)) t.near

pub near_lines : (id : ℕ) (rest : ℤ) (others : List Share) (last : Share) (terms : List Term)
    → AreRounded terms (others ++ last ∷ []) → pos 0 ≤ℤ rest → rest ≤ℤ pos (rooms (others ++ last ∷ []))
    → AllZip (λ term line. IsWithinOne term.f line.area2) terms (all_lines id rest others last)
near_lines id rest [] last [] h low high = absurd h
near_lines id rest [] last (term ∷ []) h low high = (near_last term.lost term.f last.least rest last.has_next h.0 low high, tt)
near_lines id rest [] last (term ∷ other ∷ terms) h low high = absurd h.1
near_lines id rest (share ∷ others) last [] h low high = absurd h
near_lines id rest (share ∷ others) last (term ∷ terms) h low high =
    let t = takes term.lost term.f share.least rest share.has_next (rooms (others ++ last ∷ [])) h.0 low high in
    (t.near, near_lines id (rest -ℤ taken share.has_next rest) others last terms h.1 t.low t.high)

-- of the two numbers the next one, where it is there
pub nearest : (lost : ℕ) (f : Fraction) (least more : ℤ) (some : Bool) → IsRounded lost f least some → more ≡ taken some (pos 1)
    → IsWithinOne f (least +ℤ more)
nearest lost f least more true h e = moved f (least +ℤ pos 1) (least +ℤ more) (ap (λ z. least +ℤ z) (sym e)) (h.next_is_near refl)
nearest lost f least more false h e = moved f least (least +ℤ more) (omega (arith, ints, e)) h.is_near

-- ---- one share after another
pub least-drop : (shares : List Share) (i : ℕ) (share : Share) → i < length shares → share ≡ get_or shares i share
    → least_of_all (drop i shares) ≡ share.least +ℤ least_of_all (drop (i + 1) shares)
least-drop shares i share h e = ap least_of_all (drop_item shares i share h e)

pub lines-drop : (id : ℕ) (rest : ℤ) (shares : List Share) (i : ℕ) (share : Share) → i < length shares → share ≡ get_or shares i share
    → lines_of id rest (drop i shares) ≡ line_of id share.zone (share.least +ℤ taken share.has_next rest)
    ∷ lines_of id (rest -ℤ taken share.has_next rest) (drop (i + 1) shares)
lines-drop id rest shares i share h e = ap (lines_of id rest) (drop_item shares i share h e)

pub left-drop : (rest : ℤ) (shares : List Share) (i : ℕ) (share : Share) → i < length shares → share ≡ get_or shares i share
    → left_over rest (drop i shares) ≡ left_over (rest -ℤ taken share.has_next rest) (drop (i + 1) shares)
left-drop rest shares i share h e = ap (left_over rest) (drop_item shares i share h e)

-- ---- the sum of all, counted
counted_all : (terms : List Term) (shares : List Share) → AreRounded terms shares
    → IsCounted (pos PARTS *ℤ least_of_all shares -ℤ pos (lost_in_all terms)) (PARTS * rooms shares + 2 * lost_in_all terms)
    (sum_of_terms terms)
counted_all [] [] h = counted_same (pos 0) _ 0 _ (whole (pos 0)) counted_zero (omega (arith, ints)) (omega arith)
counted_all [] (share ∷ shares) h = absurd h
counted_all (term ∷ terms) [] h = absurd h
counted_all (term ∷ terms) (share ∷ shares) h =
    counted_same _ _ _ _ _
    (counted_plus _ _ _ _ _ _ h.0.counted (counted_all terms shares h.1)) (omega (arith, ints)) (omega arith)

pub cancelled : (a b d : ℤ) → pos 0 <ℤ d → (a *ℤ d) ≤ℤ (b *ℤ d) → a ≤ℤ b
cancelled a b d p h = ends a b (not_neg_of_mul d (b -ℤ a) p
    (difference (a *ℤ d) (b *ℤ d) (d *ℤ (b -ℤ a)) (same_by (a ∷ b ∷ d ∷ []) (mul (var 2) (sub (var 1) (var 0)))
    (sub (mul (var 1) (var 2)) (mul (var 0) (var 2))) refl) h))
  where
    difference : (x y z : ℤ) → z ≡ y -ℤ x → x ≤ℤ y → pos 0 ≤ℤ z
    difference x y z e k = omega (arith, ints)

    ends : (x y : ℤ) → pos 0 ≤ℤ (y -ℤ x) → x ≤ℤ y
    ends x y k = omega (arith, ints)

-- a fraction that is a whole number has this number's parts
whole_counted : (t total : ℤ) (k : ℕ) (f : Fraction) → IsCounted t k f → AreEqual f (whole total)
    → (t ≤ℤ (pos PARTS *ℤ total)) × ((pos PARTS *ℤ total) ≤ℤ (t +ℤ pos k))
whole_counted t total k f h e = (
  cancelled t (pos PARTS *ℤ total) f.d h.positive (upper (t *ℤ f.d) (pos PARTS *ℤ f.n) (pos PARTS *ℤ total *ℤ f.d) h.above parts),
  cancelled (pos PARTS *ℤ total) (t +ℤ pos k) f.d h.positive
      (lower (pos PARTS *ℤ total *ℤ f.d) (pos PARTS *ℤ f.n) ((t +ℤ pos k) *ℤ f.d) parts h.below),
)
  where
    parts : pos PARTS *ℤ f.n ≡ pos PARTS *ℤ total *ℤ f.d
    parts = same_by (pos PARTS ∷ f.n ∷ []) (mul (var 0) (var 1)) (mul (var 0) (mul (var 1) (lit (pos 1)))) refl
        ∙ ap (λ n. pos PARTS *ℤ n) e
        ∙ same_by (pos PARTS ∷ total ∷ f.d ∷ []) (mul (var 0) (mul (var 1) (var 2))) (mul (mul (var 0) (var 1)) (var 2)) refl

    upper : (x y z : ℤ) → x ≤ℤ y → y ≡ z → x ≤ℤ z
    upper x y z a b = omega (arith, ints)

    lower : (x y z : ℤ) → y ≡ x → y ≤ℤ z → x ≤ℤ z
    lower x y z a b = omega (arith, ints)

-- what is left over, where the fractions sum to the total: not less than nothing, and not more than the shares can take
pub left_within : (total : ℤ) (terms : List Term) (shares : List Share) → AreRounded terms shares
    → AreEqual (sum_of_terms terms) (whole total) → lost_in_all terms < PARTS
    → (pos 0 ≤ℤ (total -ℤ least_of_all shares)) × ((total -ℤ least_of_all shares) ≤ℤ pos (rooms shares))
left_within total terms shares h e few =
    let w = whole_counted _ total _ _ (counted_all terms shares h) e in
    (omega (arith, ints, w.0, w.1, few), omega (arith, ints, w.0, w.1, few))

-- ---- all that is said of the lines
pub all_of_lines : (id : ℕ) (total rest : ℤ) (shares others : List Share) (last : Share) (old : List AreaLine)
    → shares ≡ others ++ last ∷ [] → rest ≡ total -ℤ least_of_all shares
    → AddsShares id total shares old (old ++ all_lines id rest others last)
all_of_lines id total rest shares others last old e r = record {
  added = all_lines id rest others last;
  is_added = refl;
  are_pairs = pairs_of_lines id rest others last ∙ sym (ap (map (pair_with id)) e);
  sum = omega (arith, ints, sum_of_lines id rest others last, ap least_of_all e);
  near = λ terms rounded equal few.
      let w = left_within total terms shares rounded equal few in
      near_lines id rest others last terms (subst (AreRounded terms) e rounded) (omega (arith, ints, w.0))
      (omega (arith, ints, w.1, ap rooms e));
}

-- ---- along the shares
pub lines_on : (id : ℕ) (now next all : List AreaLine) (rest after more area : ℤ) (others : List Share) (i : ℕ) (share : Share)
    → i < length others → share ≡ get_or others i share → more ≡ taken share.has_next rest → area ≡ share.least +ℤ more
    → after ≡ rest -ℤ more → next ≡ now ++ line_of id share.zone area ∷ []
    → now ++ lines_of id rest (drop i others) ≡ all → next ++ lines_of id after (drop (i + 1) others) ≡ all
lines_on id now next all rest after more area others i share h e m a r n s =
    let behind = lines_of id (rest -ℤ taken share.has_next rest) (drop (i + 1) others) in
    let first : area ≡ share.least +ℤ taken share.has_next rest = a ∙ ap (λ z. share.least +ℤ z) m in
    let left : after ≡ rest -ℤ taken share.has_next rest = r ∙ ap (λ z. rest -ℤ z) m in
    rw (n, first, left) (append_assoc now (line_of id share.zone (share.least +ℤ taken share.has_next rest) ∷ []) behind)
    ∙ sym (ap (λ lines. now ++ lines) (lines-drop id rest others i share h e)) ∙ s

pub left_on : (rest after more all : ℤ) (others : List Share) (i : ℕ) (share : Share)
    → i < length others → share ≡ get_or others i share → more ≡ taken share.has_next rest → after ≡ rest -ℤ more
    → left_over rest (drop i others) ≡ all → left_over after (drop (i + 1) others) ≡ all
left_on rest after more all others i share h e m r s =
    ap (λ z. left_over z (drop (i + 1) others)) (r ∙ ap (λ z. rest -ℤ z) m) ∙ sym (left-drop rest others i share h e) ∙ s

pub lines_end : (id : ℕ) (now next old : List AreaLine) (rest first area : ℤ) (others : List Share) (i : ℕ) (last : Share)
    → length others ≤ i → area ≡ last.least +ℤ rest → next ≡ now ++ line_of id last.zone area ∷ []
    → now ++ lines_of id rest (drop i others) ≡ old ++ lines_of id first others
    → left_over rest (drop i others) ≡ left_over first others → next ≡ old ++ all_lines id first others last
lines_end id now next old rest first area others i last h a n s l =
    let none : drop i others ≡ [] = drop_of_length-le others h in
    let lines : now ≡ old ++ lines_of id first others =
    sym (append-nil now) ∙ sym (ap (λ shares. now ++ lines_of id rest shares) none) ∙ s in
    let left : rest ≡ left_over first others = sym (ap (left_over rest) none) ∙ l in
    n ∙ ap (λ z. now ++ line_of id last.zone z ∷ []) (a ∙ ap (λ z. last.least +ℤ z) left)
    ∙ ap (λ front. front ++ line_of id last.zone (last.least +ℤ left_over first others) ∷ []) lines
    ∙ append_assoc old (lines_of id first others) (line_of id last.zone (last.least +ℤ left_over first others) ∷ [])

pub two_added : (id zone other : ℕ) (total area first second : ℤ) (old mid new : List AreaLine) → first ≡ area → second ≡ total -ℤ area
    → mid ≡ old ++ line_of id zone first ∷ [] → new ≡ mid ++ line_of id other second ∷ []
    → new ≡ old ++ line_of id zone area ∷ line_of id other (total -ℤ area) ∷ []
two_added id zone other total area first second old mid new e f m n =
    n ∙ ap (λ z. mid ++ line_of id other z ∷ []) f ∙ ap (λ lines. lines ++ line_of id other (total -ℤ area) ∷ []) m
    ∙ ap (λ z. (old ++ line_of id zone z ∷ []) ++ line_of id other (total -ℤ area) ∷ []) e
    ∙ append_assoc old (line_of id zone area ∷ []) (line_of id other (total -ℤ area) ∷ [])
