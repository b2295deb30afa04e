-- Rings that are checked one after the other, and the faults of those that are not simple.
use Rattle.std.proofs.Common.{◌≡◌, ◌⊎◌, inl, inr, refl, sym, ◌∙◌, ap, subst, arith, ℕ, suc, ◌+◌, ◌<◌, List, []}
use Rattle.std.proofs.Common.{◌∷◌, ◌++◌, map}
use Rattle.std.proofs.Common.{length, get_or, drop, append-nil, append_assoc}
use Rattle.std.specs.List.{AllByRecursion, Contains}
use Rattle.std.specs.List.Sorted.{IsStrictlyIncreasing, IsStrictlySortedBy}
use Rattle.std.specs.declared.cmp.Ordering.TheVariants.{Less}
use Rattle.std.specs.Ordering.{nat_cmp}
use Rattle.std.proofs.lemmas.List.{length-append}
use Rattle.std.proofs.lemmas.Map.Keys.{IsStrictlyIncreasing-from_sorted, sorted_from_strictly_increasing}
use Rattle.geo_exact.specs.declared.corner.Corner.{Corner}
use Rattle.geo_exact.specs.Layers.{NumberedRing}
use Rattle.ring_core.specs.declared.ring.Ring.{Ring}
use Rattle.ring_core.specs.declared.ring.RingFault.{RingFault}
use Rattle.ring_core.specs.Simple.{IsSimpleRing}
use Rattle.ring_core.specs.Faults.{IsRingFault}
use Rattle.edge_chains.proofs.nodings.NodedEdges.{none_in_nil, Contains-here, Contains-there, Contains-cases}
use Rattle.fabric_core.specs.Rows.{numbers}
use Rattle.fabric_core.specs.Faults.{IsFirstFaulty, IsFaulty, AreRingFaults}
use Rattle.fabric_core.specs.own.Lists.{numbered_rows, corners_of_rings}
use Rattle.fabric_core.proofs.loads.OneFault.{simple_has_no_fault, one_ring_fault}
use Rattle.fabric_core.proofs.loads.OneLoadFault.{head_of}
use Rattle.fabric_core.proofs.loads.RingChecks.{faulty_at}

-- the faults of the rows that are no simple rings, under their numbers, row by row
abbrev pub AreToldRings : List NumberedRing → List (ℕ × RingFault) → Type 0
AreToldRings [] told = told ≡ []
AreToldRings (row ∷ rows) told =
    (IsSimpleRing row.corners × AreToldRings rows told)
    ⊎ ((fault : RingFault) × (rest : List (ℕ × RingFault)) × IsRingFault row.corners fault × AreToldRings rows rest
    × (told ≡ (row.number, fault) ∷ rest))

rows_of_none : (ids : List ℕ) → numbered_rows ids [] ≡ []
rows_of_none [] = refl
rows_of_none (id ∷ ids) = refl

-- ---- one ring more
told_simple : (ids : List ℕ) (done : List (List Corner)) (ring : List Corner) (told : List (ℕ × RingFault))
    → length done < length ids
    → AreToldRings (numbered_rows ids done) told → IsSimpleRing ring → AreToldRings (numbered_rows ids (done ++ ring ∷ [])) told
told_simple [] done ring told l h s = absurd (omega (arith, l))
told_simple (n ∷ ids) [] ring told l h s = inl (s, subst (λ rows. AreToldRings rows told) (sym (rows_of_none ids)) h)
told_simple (n ∷ ids) (d ∷ done) ring told l h s = elim h [
  | inl p ↦ inl (p.0, told_simple ids done ring told (omega (arith, l)) p.1 s)
  | inr p ↦ inr (p.0, p.1, p.2, told_simple ids done ring p.1 (omega (arith, l)) p.3 s, p.4)
]

told_faulty : (ids : List ℕ) (done : List (List Corner)) (ring : List Corner) (fault : RingFault) (told : List (ℕ × RingFault))
    → length done < length ids → AreToldRings (numbered_rows ids done) told → IsRingFault ring fault
    → AreToldRings (numbered_rows ids (done ++ ring ∷ [])) (told ++ (get_or ids (length done) 0, fault) ∷ [])
told_faulty [] done ring fault told l h k = absurd (omega (arith, l))
told_faulty (n ∷ ids) [] ring fault told l h k =
    inr (fault, [], k, subst (λ rows. AreToldRings rows []) (sym (rows_of_none ids)) refl, ap (λ t. t ++ (n, fault) ∷ []) h)
told_faulty (n ∷ ids) (d ∷ done) ring fault told l h k =
    let new : ℕ × RingFault = (get_or ids (length done) 0, fault) in
    elim h [
      | inl p ↦ inl (p.0, told_faulty ids done ring fault told (omega (arith, l)) p.1 k)
      | inr p ↦ inr (
        p.0,
        p.1 ++ new ∷ [],
        p.2,
        told_faulty ids done ring fault p.1 (omega (arith, l)) p.3 k,
        ap (λ t. t ++ new ∷ []) p.4,
      )
    ]

-- ---- rings that were checked up to some place
-- so many rings were looked at; those that are not simple were told, and where there are none all were kept
pub record AreLookedAt {A : Type 0} (ids : List ℕ) (rings rest : List (List Corner)) (kept : List (Ring A)) (told : List
    (ℕ × RingFault)) : Type 0 where
  pub done : List (List Corner)
  pub are_all : done ++ rest ≡ rings
  pub count : length done ≡ length kept + length told
  pub are_told : AreToldRings (numbered_rows ids done) told
  pub are_kept : told ≡ [] → corners_of_rings kept ≡ done

pub none_looked_at : {A : Type 0} (ids : List ℕ) (rings rest : List (List Corner)) (kept : List (Ring A)) (told : List (ℕ × RingFault))
    → rest ≡ rings → kept ≡ [] → told ≡ [] → AreLookedAt ids rings rest kept told
none_looked_at ids rings rest kept told all none none_told = record {
  done = [];
  are_all = all;
  count = omega (arith, ap length none, ap length none_told);
  are_told = subst (λ rows. AreToldRings rows told) (sym (rows_of_none ids)) none_told;
  are_kept = λ e. ap corners_of_rings none;
}

pub nil_of_no_length : {X : Type 0} (xs : List X) → length xs ≡ 0 → xs ≡ []
nil_of_no_length [] h = refl
nil_of_no_length (x ∷ xs) h = absurd (omega (arith, h))

more_done : (rings left rest done : List (List Corner)) (ring : List Corner) → done ++ left ≡ rings → left ≡ ring ∷ rest
    → (done ++ ring ∷ []) ++ rest ≡ rings
more_done rings left rest done ring so_far here = append_assoc done (ring ∷ []) rest ∙ ap (λ xs. done ++ xs) (sym here) ∙ so_far

one_more : {X : Type 0} (xs : List X) (x : X) → length (xs ++ x ∷ []) ≡ suc (length xs)
one_more [] x = refl
one_more (y ∷ xs) x = ap suc (one_more xs x)

-- there is a number for the next ring
has_number : (ids : List ℕ) (rings left rest done : List (List Corner)) (ring : List Corner) → length ids ≡ length rings
    → done ++ left ≡ rings
    → left ≡ ring ∷ rest → length done < length ids
has_number ids rings left rest done ring many so_far here = omega (
  arith,
  many,
  ap length (more_done rings left rest done ring so_far here),
  length-append (done ++ ring ∷ []) rest,
  one_more done ring,
)

corners_kept : {A : Type 0} (kept : List (Ring A)) (ring : Ring A)
    → corners_of_rings (kept ++ ring ∷ []) ≡ corners_of_rings kept ++ ring.corners ∷ []
corners_kept [] ring = refl
corners_kept (k ∷ kept) ring = ap (λ xs. k.corners ∷ xs) (corners_kept kept ring)

not_empty : {X : Type 0} (xs : List X) (x : X) → xs ++ x ∷ [] ≡ [] → ⊥
not_empty xs x e = omega (arith, one_more xs x, ap length e)

pub one_kept : {A : Type 0} (ids : List ℕ) (rings left rest : List (List Corner)) (kept : List (Ring A))
    (told : List (ℕ × RingFault)) (ring : Ring A) (corners : List Corner)
    → length ids ≡ length rings → AreLookedAt ids rings left kept told → left ≡ corners ∷ rest → ring.corners ≡ corners
    → AreLookedAt ids rings rest (kept ++ ring ∷ []) told
one_kept ids rings left rest kept told ring corners many h here same =
    record {
      done = h.done ++ ring.corners ∷ [];
      are_all = more_done rings left rest h.done ring.corners h.are_all (here ∙ ap (λ cs. cs ∷ rest) (sym same));
      count = omega (arith, h.count, one_more h.done ring.corners, one_more kept ring);
      are_told = told_simple ids h.done ring.corners told
          (has_number ids rings left rest h.done corners many h.are_all here) h.are_told ring.is_simple;
      are_kept = λ e. corners_kept kept ring ∙ ap (λ xs. xs ++ ring.corners ∷ []) (h.are_kept e);
    }

pub one_told : {A : Type 0} (ids : List ℕ) (rings left rest : List (List Corner)) (kept : List (Ring A))
    (told : List (ℕ × RingFault)) (corners : List Corner)
    (fault : RingFault) (number place : ℕ) → length ids ≡ length rings → AreLookedAt ids rings left kept told
    → left ≡ corners ∷ rest
    → place ≡ length kept + length told → number ≡ get_or ids place 0 → IsRingFault corners fault
    → AreLookedAt ids rings rest kept (told ++ (number, fault) ∷ [])
one_told ids rings left rest kept told corners fault number place many h here at is_number is_fault = record {
  done = h.done ++ corners ∷ [];
  are_all = more_done rings left rest h.done corners h.are_all here;
  count = omega (arith, h.count, one_more h.done corners, one_more told (number, fault));
  are_told = subst (λ n. AreToldRings (numbered_rows ids (h.done ++ corners ∷ [])) (told ++ (n, fault) ∷ []))
      (ap (λ i. get_or ids i 0) (h.count ∙ sym at) ∙ sym is_number)
      (told_faulty ids h.done corners fault told (has_number ids rings left rest h.done corners many h.are_all here) h.are_told is_fault);
  are_kept = λ e. absurd (not_empty told (number, fault) e);
}

-- ---- at the end
all_done : {A : Type 0} (ids : List ℕ) (rings rest : List (List Corner)) (kept : List (Ring A)) (told : List (ℕ × RingFault))
    → rest ≡ [] → (h : AreLookedAt ids rings rest kept told) → h.done ≡ rings
all_done ids rings rest kept told none h = sym (append-nil h.done) ∙ ap (λ xs. h.done ++ xs) (sym none) ∙ h.are_all

pub all_kept : {A : Type 0} (ids : List ℕ) (rings rest : List (List Corner)) (kept : List (Ring A)) (told : List (ℕ × RingFault))
    → rest ≡ [] → AreLookedAt ids rings rest kept told → told ≡ [] → corners_of_rings kept ≡ rings
all_kept ids rings rest kept told none h empty = h.are_kept empty ∙ all_done ids rings rest kept told none h

pub all_told : {A : Type 0} (ids : List ℕ) (rings rest : List (List Corner)) (kept : List (Ring A)) (told : List (ℕ × RingFault))
    → rest ≡ [] → AreLookedAt ids rings rest kept told → AreToldRings (numbered_rows ids rings) told
all_told ids rings rest kept told none h =
    subst (λ xs. AreToldRings (numbered_rows ids xs) told) (all_done ids rings rest kept told none h) h.are_told

-- ---- all of them, and no others
faulty_there : (row : NumberedRing) (rows : List NumberedRing) (n : ℕ) (f : RingFault) → IsFaulty rows n f
    → IsFaulty (row ∷ rows) n f
faulty_there row rows n f h = record {
  row = h.row;
  is_row = Contains-there row rows h.row h.is_row;
  has_number =
      h.has_number;
  is_fault = h.is_fault;
}

only_faulty : (rows : List NumberedRing) (told : List (ℕ × RingFault)) → AreToldRings rows told → (n : ℕ) (f : RingFault)
    → Contains told (n, f)
    → IsFaulty rows n f
only_faulty [] told h n f c = absurd (none_in_nil (n, f) (subst (λ t. Contains t (n, f)) h c))
only_faulty (row ∷ rows) told h n f c = elim h [
  | inl p ↦ faulty_there row rows n f (only_faulty rows told p.1 n f c)
  | inr p ↦ elim (Contains-cases (row.number, p.0) p.1 (n, f) (subst (λ t. Contains t (n, f)) p.4 c)) [
    | inl e ↦ record {
      row = row;
      is_row = Contains-here row rows;
      has_number = ap (λ (t : ℕ × RingFault). t.0) e;
      is_fault = subst (IsRingFault row.corners) (ap (λ (t : ℕ × RingFault). t.1) e) p.2;
    }
    | inr k ↦ faulty_there row rows n f (only_faulty rows p.1 p.3 n f k)
  ]
]

faulty_told : (rows : List NumberedRing) (told : List (ℕ × RingFault)) → AreToldRings rows told → (n : ℕ) (f : RingFault)
    → IsFaulty rows n f
    → Contains told (n, f)
faulty_told [] told h n f k = absurd (none_in_nil k.row k.is_row)
faulty_told (row ∷ rows) told h n f k = elim (Contains-cases row rows k.row k.is_row) [
  | inl e ↦ here (subst (λ (r : NumberedRing). r.number ≡ n) (sym e) k.has_number)
      (subst (λ (r : NumberedRing). IsRingFault r.corners f)
      (sym e) k.is_fault) h
  | inr c ↦ behind (record { row = k.row; is_row = c; has_number = k.has_number; is_fault = k.is_fault }) h
      (λ t p g. faulty_told rows t p n f g)
]
  where
    here : row.number ≡ n → IsRingFault row.corners f → AreToldRings (row ∷ rows) told → Contains told (n, f)
    here e g (inl p) = absurd (simple_has_no_fault row.corners f p.0 g)
    here e g (inr p) =
        subst (λ t. Contains t (n, f)) (sym p.4) (subst (λ m. Contains ((m, p.0) ∷ p.1) (n, f)) (sym e)
        (subst (λ x. Contains ((n, x) ∷ p.1) (n, f)) (one_ring_fault row.corners f p.0 g p.2) (Contains-here (n, f) p.1)))

    behind : IsFaulty rows n f → AreToldRings (row ∷ rows) told
        → ((t : List (ℕ × RingFault)) → AreToldRings rows t → IsFaulty rows n f → Contains t (n, f)) → Contains told (n, f)
    behind g (inl p) among = among told p.1 g
    behind g (inr p) among = subst (λ t. Contains t (n, f)) (sym p.4) (Contains-there (row.number, p.0) p.1 (n, f) (among p.1 p.3 g))

-- ---- in ascending order
told_above : (P : ℕ → Type 0) (rows : List NumberedRing) (told : List (ℕ × RingFault)) → AreToldRings rows told
    → AllByRecursion P (numbers rows)
    → AllByRecursion P (map (λ t. t.0) told)
told_above P [] told h all = subst (λ t. AllByRecursion P (map (λ (x : ℕ × RingFault). x.0) t)) (sym h) tt
told_above P (row ∷ rows) told h all = elim h [
  | inl p ↦ told_above P rows told p.1 all.1
  | inr p ↦ subst (λ t. AllByRecursion P (map (λ (x : ℕ × RingFault). x.0) t)) (sym p.4) (all.0, told_above P rows p.1 p.3 all.1)
]

told_rise : (rows : List NumberedRing) (told : List (ℕ × RingFault)) → AreToldRings rows told
    → IsStrictlySortedBy nat_cmp (numbers rows)
    → IsStrictlySortedBy nat_cmp (map (λ t. t.0) told)
unfolding IsStrictlySortedBy
told_rise [] told h rise = subst (λ t. IsStrictlySortedBy nat_cmp (map (λ (x : ℕ × RingFault). x.0) t)) (sym h) tt
told_rise (row ∷ rows) told h rise = elim h [
  | inl p ↦ told_rise rows told p.1 rise.1
  | inr p ↦ subst (λ t. IsStrictlySortedBy nat_cmp (map (λ (x : ℕ × RingFault). x.0) t)) (sym p.4)
      (told_above (λ n. nat_cmp row.number n ≡ Less) rows p.1 p.3 rise.0, told_rise rows p.1 p.3 rise.1)
]

pub are_ring_faults : (rows : List NumberedRing) (told : List (ℕ × RingFault)) → AreToldRings rows told
    → IsStrictlyIncreasing (numbers rows)
    → AreRingFaults rows told
are_ring_faults rows told h rise = record {
  ascend = IsStrictlyIncreasing-from_sorted (map (λ t. t.0) told) (told_rise rows told h (sorted_from_strictly_increasing
      (numbers rows) rise));
  exactly = λ n f. (only_faulty rows told h n f, faulty_told rows told h n f);
}

-- ---- the first
pub headed : {X : Type 0} (xs : List X) (x : X) → (xs ≡ [] → ⊥) → x ≡ get_or xs 0 x → xs ≡ x ∷ drop 1 xs
headed [] x some e = absurd (some refl)
headed (y ∷ xs) x some e = ap (λ z. z ∷ xs) (sym e)

pub first_faulty : (rows : List NumberedRing) (told : List (ℕ × RingFault)) (t : ℕ × RingFault) (rest : List (ℕ × RingFault))
    → AreToldRings rows told → told ≡ t ∷ rest → IsFirstFaulty rows t.0 t.1
first_faulty [] told t rest h e = absurd (never (sym h ∙ e))
  where
    never : [] ≡ t ∷ rest → ⊥
    never k = cc
first_faulty (row ∷ rows) told t rest h e = elim h [
  | inl p ↦ let w = first_faulty rows told t rest p.1 e in record {
    before = row ∷ w.before;
    row = w.row;
    behind = w.behind;
    are_all = ap (λ rs. row ∷ rs) w.are_all;
    has_number = w.has_number;
    is_fault = w.is_fault;
    simple_before = (p.0, w.simple_before);
  }
  | inr p ↦ let same : (row.number, p.0) ≡ t = head_of (row.number, p.0) t p.1 rest (sym p.4 ∙ e) in record {
    before = [];
    row = row;
    behind = rows;
    are_all = refl;
    has_number = ap (λ (x : ℕ × RingFault). x.0) same;
    is_fault = subst (λ (x : ℕ × RingFault). IsRingFault row.corners x.1) same p.2;
    simple_before = tt;
  }
]

-- where none was told so far, the next that is not simple is the first
pub first_told : {A : Type 0} (ids : List ℕ) (rings left rest : List (List Corner)) (kept : List (Ring A)) (told : List (ℕ × RingFault))
    (corners : List Corner) (fault : RingFault) (number place : ℕ) → length ids ≡ length rings → AreLookedAt ids rings left kept told
    → told ≡ [] → left ≡ corners ∷ rest → place ≡ length kept + length told → number ≡ get_or ids place 0 → IsRingFault corners fault
    → IsFirstFaulty (numbered_rows ids rings) number fault
first_told ids rings left rest kept told corners fault number place many h none here at is_number is_fault =
    subst (λ n. IsFirstFaulty (numbered_rows ids rings) n fault) (sym is_number)
    (faulty_at ids rings left rest kept place corners fault many (ap (λ xs. xs ++ left) (h.are_kept none) ∙ h.are_all) here
    (omega (arith, at, ap length none)) is_fault)
