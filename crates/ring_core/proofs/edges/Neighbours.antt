-- Two edges of a ring that meet otherwise than as neighbours: by the case of their numbers.
use Rattle.std.proofs.Common.{◌≡◌, ◌≢◌, ◌↔◌, ℕ, suc, ◌+◌, ◌<◌, ◌≤◌, ◌∙◌, sym, arith, inl, inr, List}
use Rattle.std.proofs.Common.{length}
use Rattle.std.proofs.lemmas.Bool.Decides.{nat_tests}
use Rattle.geo_exact.specs.declared.corner.Corner.{Corner}
use Rattle.geo_exact.specs.Point.{Point}
use Rattle.geo_exact.specs.Places.{corner_at, after}
use Rattle.ring_core.specs.own.EdgePairs.{HaveCommonPoint, DoublesBack}
use Rattle.ring_core.specs.Simple.{IsSharedCorner, MeetOtherwise}
use Rattle.ring_core.proofs.edges.RoundNumbers.{after_inner}

-- edge j follows edge i
one_way : (n i j : ℕ) → 3 ≤ n → i + 1 ≡ j → j < n → i ≡ after n j → ⊥
one_way n i j h e b f = grind (arith, nat_tests)

pub following_meet : (ring : List Corner) (i j : ℕ) → 3 ≤ length ring → i + 1 ≡ j → j < length ring
    → DoublesBack (corner_at ring i) (corner_at ring j) (corner_at ring (after (length ring) j)) ↔ MeetOtherwise ring i j
following_meet ring i j h e b =
    let f : after (length ring) i ≡ j = after_inner (length ring) i (omega arith) ∙ omega arith in (
      λ d. (d.0, rw f d.1, d.2, λ s. elim s [ inl q ↦ d.3 q.1 | inr q ↦ one_way (length ring) i j h e b q.0 ]),
      λ m. (m.0, (rw f at m.1), m.2, λ q. m.3 (inl (sym f, q))),
    )

-- edge i follows edge j, round the ring's end
other_way : (n i j : ℕ) → 3 ≤ n → i < j → after n j ≡ i → j ≡ after n i → ⊥
other_way n i j h o e f = grind (arith, nat_tests)

pub closing_meet : (ring : List Corner) (i j : ℕ) → 3 ≤ length ring → i < j → after (length ring) j ≡ i
    → DoublesBack (corner_at ring j) (corner_at ring i) (corner_at ring (after (length ring) i)) ↔ MeetOtherwise ring i j
closing_meet ring i j h o e = (
  λ d. (d.0, d.2, rw e d.1, λ s. elim s [ inl q ↦ other_way (length ring) i j h o e q.0 | inr q ↦ d.3 q.1 ]),
  λ m. (m.0, (rw e at m.2), m.1, λ q. m.3 (inr (sym e, q))),
)

-- the edges are no neighbours
no_neighbours : (ring : List Corner) (i j : ℕ) (p : Point) → i < j → j < length ring → i + 1 ≢ j
    → after (length ring) j ≢ i → IsSharedCorner p ring i j → ⊥
no_neighbours ring i j p o b x y s = elim s [
  | inl q ↦ let f : suc i ≡ j = sym (after_inner (length ring) i (omega arith)) ∙ sym q.0 in x (omega arith)
  | inr q ↦ y (sym q.0)
]

pub apart_meet : (ring : List Corner) (i j : ℕ) → i < j → j < length ring → i + 1 ≢ j → after (length ring) j ≢ i
    → HaveCommonPoint (corner_at ring i) (corner_at ring (after (length ring) i)) (corner_at ring j)
    (corner_at ring (after (length ring) j))
    ↔ MeetOtherwise ring i j
apart_meet ring i j o b x y = (λ h. (h.0, h.1, h.2, λ s. no_neighbours ring i j h.0 o b x y s), λ m. (m.0, m.1, m.2))
