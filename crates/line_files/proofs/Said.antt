-- Lines that are read one after the other: what they say so far, and what is left.
use Rattle.std.proofs.Common.{◌≡◌, inl, inr, ℕ, ◌+◌, List, [], ◌∷◌, ◌++◌, refl, ap, sym, ◌∙◌, subst}
use Rattle.std.proofs.Common.{append_assoc, append-nil}
use Rattle.line_files.specs.TextLines.{IsSkipped, AreSaid, IsBad, IsFirstBad, FirstSays}

-- a line says one thing at most
pub record IsGrammar {X : Type 0} (Says : ℕ → List ℕ → X → Type 0) : Type 0 where
  pub unique : (n : ℕ) (line : List ℕ) (x y : X) → Says n line x → Says n line y → x ≡ y

-- lines before the one of this number say these things, and these lines are left
pub record AreRead {X : Type 0} (Says : ℕ → List ℕ → X → Type 0) (all : List (List ℕ)) (number : ℕ)
    (left : List (List ℕ)) (said : List X) : Type 0 where
  pub adds : (more : List X) → AreSaid Says number left more → AreSaid Says 1 all (said ++ more)
  pub only : (whole : List X) → AreSaid Says 1 all whole → (more : List X) × AreSaid Says number left more × (whole ≡ said ++ more)
  pub bad : (n : ℕ) → IsFirstBad Says number left n → IsFirstBad Says 1 all n
  pub same_bad : (n : ℕ) → IsFirstBad Says 1 all n → IsFirstBad Says number left n
  pub first : FirstSays Says number left → FirstSays Says 1 all

-- none is read
pub none_read : {X : Type 0} (Says : ℕ → List ℕ → X → Type 0) (all : List (List ℕ)) → AreRead Says all 1 all []
none_read Says all = record {
  adds = λ more h. h;
  only = λ whole h. (whole, h, refl);
  bad = λ n h. h;
  same_bad = λ n h. h;
  first = λ h. h;
}

module _ {X : Type 0} (Says : ℕ → List ℕ → X → Type 0) (grammar : IsGrammar Says) (all : List (List ℕ)) (number : ℕ)
    (line : List ℕ) (left : List (List ℕ)) (said : List X) where
  -- one more line is read, which is skipped
  pub skipped_read : AreRead Says all number (line ∷ left) said → IsSkipped line → AreRead Says all (number + 1) left said
  skipped_read h k = record {
    adds = λ more m. h.adds more (inl (k, m));
    only = λ whole w. let o = h.only whole w in elim o.1 [
      | inl m ↦ (o.0, m.1, o.2)
      | inr m ↦ absurd (m.3 k)
    ];
    bad = λ n b. h.bad n (inr (λ wrong. wrong.is_not_skipped k, b));
    same_bad = λ n b. elim (h.same_bad n b) [
      | inl m ↦ absurd (m.0.is_not_skipped k)
      | inr m ↦ m.1
    ];
    first = λ m. h.first (inl (k, m));
  }

  -- one that says something
  pub said_read : (x : X) → AreRead Says all number (line ∷ left) said → ¬ IsSkipped line → Says number line x
      → AreRead Says all (number + 1) left (said ++ x ∷ [])
  said_read x h apart k = record {
    adds = λ more m. subst (AreSaid Says 1 all) (sym (append_assoc said (x ∷ []) more))
        (h.adds (x ∷ more) (inr (x, more, refl, apart, k, m)));
    only = λ whole w. let o = h.only whole w in elim o.1 [
      | inl m ↦ absurd (apart m.0)
      | inr m ↦ (
        m.1,
        m.5,
        o.2 ∙ ap (λ more. said ++ more) (m.2 ∙ ap (λ y. y ∷ m.1) (grammar.unique number line m.0 x m.4 k))
            ∙ sym (append_assoc said (x ∷ []) m.1),
      )
    ];
    bad = λ n b. h.bad n (inr (λ wrong. wrong.says_nothing x k, b));
    same_bad = λ n b. elim (h.same_bad n b) [
      | inl m ↦ absurd (m.0.says_nothing x k)
      | inr m ↦ m.1
    ];
    first = λ m. h.first (inr (apart, (x, k)));
  }

  -- at a bad line nothing is said by all, and it is the first bad one
  pub none_said : AreRead Says all number (line ∷ left) said → IsBad Says number line → (whole : List X)
      → ¬ AreSaid Says 1 all whole
  none_said h k whole w = let o = h.only whole w in elim o.1 [
    | inl m ↦ absurd (k.is_not_skipped m.0)
    | inr m ↦ absurd (k.says_nothing m.0 m.4)
  ]

  pub bad_read : AreRead Says all number (line ∷ left) said → IsBad Says number line → IsFirstBad Says 1 all number
  bad_read h k = h.bad number (inl (k, refl))

  pub one_bad : AreRead Says all number (line ∷ left) said → IsBad Says number line → (n : ℕ)
      → IsFirstBad Says 1 all n → n ≡ number
  one_bad h k n b = elim (h.same_bad n b) [
    | inl m ↦ m.1
    | inr m ↦ absurd (m.0 k)
  ]

-- where the next line says something, so does the first that is not skipped
pub says_first : {X : Type 0} (Says : ℕ → List ℕ → X → Type 0) (all : List (List ℕ)) (number : ℕ) (line : List ℕ)
    (left : List (List ℕ)) (said : List X) (x : X) → AreRead Says all number (line ∷ left) said → ¬ IsSkipped line
    → Says number line x → FirstSays Says 1 all
says_first Says all number line left said x h apart k = h.first (inr (apart, (x, k)))

-- where no line is left, this is what all say, and none is bad
module _ {X : Type 0} (Says : ℕ → List ℕ → X → Type 0) (all : List (List ℕ)) (number : ℕ) (said : List X) where
  pub all_said : AreRead Says all number [] said → AreSaid Says 1 all said
  all_said h = subst (AreSaid Says 1 all) (append-nil said) (h.adds [] refl)

  pub one_list : AreRead Says all number [] said → (whole : List X) → AreSaid Says 1 all whole → said ≡ whole
  one_list h whole w = let o = h.only whole w in sym (o.2 ∙ ap (λ more. said ++ more) o.1 ∙ append-nil said)

  pub none_bad : AreRead Says all number [] said → (n : ℕ) → ¬ IsFirstBad Says 1 all n
  none_bad h n b = h.same_bad n b
