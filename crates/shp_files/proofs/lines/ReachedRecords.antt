-- The records of a main file that are reached: each in one place, and those before it passed.
use Rattle.std.proofs.Common.{◌≡◌, ◌≢◌, inl, inr, ℕ, ◌*◌, ◌/◌, ◌≤◌, ◌<◌, List, None, refl, sym, ap, subst}
use Rattle.std.proofs.Common.{◌∙◌, arith}
use Rattle.std.proofs.lemmas.Bool.{cases_order}
use Rattle.geo_exact.specs.declared.coord.Unit.{Unit as LengthUnit}
use Rattle.shp_files.specs.declared.fault.FileName.TheVariants.{Main}
use Rattle.shp_files.specs.Checks.{first_failure, header_checks, frame_checks, record_checks, declared_end, record_end, drawn_corners}
use Rattle.shp_files.specs.FirstFault.{Reaches, IsAccepted}
use Rattle.shp_files.specs.FirstFault.Reaches.{first, next}
use Rattle.shp_files.proofs.lines.Lines.{pass_parts}
use Rattle.shp_files.proofs.lines.WhatPasses.{FramePasses, frame_passes}

pub position_from_1 : (main : List ℕ) (unit : LengthUnit) (p s c : ℕ) → Reaches main unit p s c → 1 ≤ p
position_from_1 main unit p s c (first h) = omega arith
position_from_1 main unit p s c (next q t d r apart passes) = omega arith

pub reached_header : (main : List ℕ) (unit : LengthUnit) (p s c : ℕ) → Reaches main unit p s c
    → first_failure (header_checks Main main) ≡ None
reached_header main unit p s c (first h) = h
reached_header main unit p s c (next q t d r apart passes) = reached_header main unit q t d r

-- the records before a position are in one place
pub same_place : (main : List ℕ) (unit : LengthUnit) (p s c q t d : ℕ) → Reaches main unit p s c
    → Reaches main unit q t d → p ≡ q → (s ≡ t) × (c ≡ d)
same_place main unit p s c q t d (first h) (first k) e = (refl, refl)
same_place main unit p s c q t d (first h) (next q' t' d' r apart passes) e =
    absurd (omega (arith, e, position_from_1 main unit q' t' d' r))
same_place main unit p s c q t d (next p' s' c' r apart passes) (first k) e =
    absurd (omega (arith, e, position_from_1 main unit p' s' c' r))
same_place main unit p s c q t d (next p' s' c' r apart passes) (next q' t' d' r' apart' passes') e =
    let same = same_place main unit p' s' c' q' t' d' r r' (omega (arith, e)) in
    (ap (λ n. record_end main n) same.0, omega (arith, same.1, ap (λ n. drawn_corners main n) same.0))

-- a record that was passed
pub record IsPassed (main : List ℕ) (unit : LengthUnit) (position : ℕ) : Type 0 where
  pub start : ℕ
  pub corners : ℕ
  pub reaches : Reaches main unit position start corners
  pub apart : start ≢ declared_end main
  pub passes : first_failure (record_checks main unit position start corners) ≡ None

pub passed : (main : List ℕ) (unit : LengthUnit) (p s c q : ℕ) → Reaches main unit p s c → q < p → 1 ≤ q
    → IsPassed main unit q
passed main unit p s c q (first h) below from = absurd (omega arith)
passed main unit p s c q (next p' s' c' r apart passes) below from =
    elim (cases_order q p') [
      | inl e ↦ subst (λ (n : ℕ). IsPassed main unit n) (sym e) (record {
        start = s';
        corners = c';
        reaches = r;
        apart = apart;
        passes = passes;
      })
      | inr o ↦ elim o [ inl lt ↦ passed main unit p' s' c' q r lt from | inr gt ↦ absurd (omega (arith, below, gt)) ]
    ]

-- a record past the end of the file is not passed
pub not_past_end : (main : List ℕ) (unit : LengthUnit) (p s c : ℕ) → Reaches main unit p s c → s ≡ declared_end main
    → IsPassed main unit p → ⊥
not_past_end main unit p s c r is h = h.apart (sym (same_place main unit p s c p h.start h.corners r h.reaches refl).0 ∙ is)

-- a record begins at an even byte
pub begins_even : (main : List ℕ) (unit : LengthUnit) (p s c : ℕ) → Reaches main unit p s c → 2 * (s / 2) ≡ s
begins_even main unit p s c (first h) = refl
begins_even main unit p s c (next q t d r apart passes) = omega (arith, begins_even main unit q t d r)

-- in a file whose checks all pass, each record that is reached before the end passes
pub passes_here : (main : List ℕ) (unit : LengthUnit) (p s c : ℕ) → IsAccepted main unit → Reaches main unit p s c
    → s ≢ declared_end main
    → first_failure (record_checks main unit p s c) ≡ None
passes_here main unit p s c all r apart =
    elim (cases_order p all.position) [
      | inl e ↦ absurd (apart (same_place main unit p s c all.position (declared_end main) all.corners r all.is_reached e).0)
      | inr o ↦ elim o [
        | inl lt ↦
            let h = passed main unit all.position (declared_end main) all.corners p all.is_reached lt (position_from_1 main unit p s c r) in
            let same = same_place main unit p s c p h.start h.corners r h.reaches refl in
            let P : ℕ → ℕ → Type 0 = λ t. λ d. first_failure (record_checks main unit p t d) ≡ None in
            subst (λ (t : ℕ). P t c) (sym same.0) (subst (λ (d : ℕ). P h.start d) (sym same.1) h.passes)
        | inr gt ↦ absurd (not_past_end main unit all.position (declared_end main) all.corners all.is_reached refl
            (passed main unit p s c all.position r gt (position_from_1 main unit all.position
            (declared_end main) all.corners all.is_reached)))
      ]
    ]

-- and so does its frame
pub frame_of : (main : List ℕ) (unit : LengthUnit) (p s c : ℕ) → first_failure (record_checks main unit p s c) ≡ None
    → FramePasses main p s
unfolding record_checks
frame_of main unit p s c e = frame_passes main p s (pass_parts (frame_checks main p s) _ e).0
