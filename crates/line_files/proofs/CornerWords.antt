-- Words that are corners, two by two: taken so far, and what is left.
use Rattle.std.proofs.Common.{◌≡◌, ◌≢◌, List, [], ◌∷◌, ◌++◌, ℕ, refl, ap, sym, ◌∙◌, subst, append_assoc}
use Rattle.std.proofs.Common.{append-nil}
use Rattle.geo_exact.specs.declared.corner.Corner.{Corner}
use Rattle.line_files.specs.TextNumbers.{IsCornerText, AreCornerWords}
use Rattle.line_files.specs.declared.grids.Grid.{Grid}
use Rattle.line_files.specs.own.EditWords.{TakesCorner}
use Rattle.line_files.proofs.Numerals.{one_corner}

-- ---- the corners that words are
-- the first corner of words, and the others
pub ahead : {grid : Grid} (words : List (List ℕ)) (corner : Corner) (corners : List Corner)
    (h : AreCornerWords grid words (corner ∷ corners)) → TakesCorner grid words corner h.2
ahead words corner corners h = record { x = h.0; y = h.1; are_words = h.3; is_corner = h.4 }

pub behind : {grid : Grid} (words left : List (List ℕ)) (taken corner : Corner) (corners : List Corner) → TakesCorner grid words taken left
    → AreCornerWords grid words (corner ∷ corners) → AreCornerWords grid left corners
behind {grid} words left taken corner corners t h =
    let e : t.x ∷ t.y ∷ left ≡ h.0 ∷ h.1 ∷ h.2 = sym t.are_words ∙ h.3 in
    let same : h.2 ≡ left = cc in
    subst (λ rest. AreCornerWords grid rest corners) same h.5

pub joined : {grid : Grid} (words left : List (List ℕ)) (corner : Corner) (corners : List Corner)
    → TakesCorner grid words corner left → AreCornerWords grid left corners → AreCornerWords grid words (corner ∷ corners)
joined words left corner corners t h = (t.x, t.y, left, t.are_words, t.is_corner, h)

same_taken : {grid : Grid} (words left rest : List (List ℕ)) (a b : Corner) → TakesCorner grid words a left
    → TakesCorner grid words b rest → a ≡ b
same_taken {grid} words left rest a b t u =
    let e : t.x ∷ t.y ∷ left ≡ u.x ∷ u.y ∷ rest = sym t.are_words ∙ u.are_words in
    let ex : u.x ≡ t.x = cc in
    let ey : u.y ≡ t.y = cc in
    one_corner t.x t.y a b t.is_corner (subst (λ y. IsCornerText grid t.x y b) ey (subst (λ x. IsCornerText grid x u.y b) ex u.is_corner))

no_corner_of_none : {grid : Grid} (words : List (List ℕ)) (corner : Corner) (corners : List Corner) → words ≡ []
    → ¬ AreCornerWords grid words (corner ∷ corners)
no_corner_of_none words corner corners e h = let f : [] ≡ h.0 ∷ h.1 ∷ h.2 = sym e ∙ h.3 in absurd (cc)

-- words are one list of corners
pub same_corners : (grid : Grid) (words : List (List ℕ)) (p q : List Corner) → AreCornerWords grid words p
    → AreCornerWords grid words q → p ≡ q
same_corners grid words [] [] h k = refl
same_corners grid words [] (c ∷ cs) h k = absurd (no_corner_of_none words c cs h k)
same_corners grid words (c ∷ cs) [] h k = absurd (no_corner_of_none words c cs k h)
same_corners grid words (c ∷ cs) (d ∷ ds) h k =
    let heads : c ≡ d = same_taken words h.2 k.2 c d (ahead words c cs h) (ahead words d ds k) in
    let tails : cs ≡ ds = same_corners grid h.2 cs ds h.5 (behind words h.2 c d ds (ahead words c cs h) k) in
    cc

-- ---- a path that is read so far, and the words that are left
pub record IsReadTo (grid : Grid) (all left : List (List ℕ)) (path : List Corner) : Type 0 where
  pub adds : (more : List Corner) → AreCornerWords grid left more → AreCornerWords grid all (path ++ more)
  pub only : (whole : List Corner) → AreCornerWords grid all whole → (more : List Corner) × AreCornerWords grid left more
      × (whole ≡ path ++ more)

taken_only : {grid : Grid} (words left : List (List ℕ)) (corner : Corner) → TakesCorner grid words corner left → (more : List Corner)
    → AreCornerWords grid words more
    → (rest : List Corner) × AreCornerWords grid left rest × (more ≡ corner ∷ rest)
taken_only words left corner t [] h = let f : [] ≡ t.x ∷ t.y ∷ left = sym h ∙ t.are_words in absurd (cc)
taken_only words left corner t (c ∷ cs) h =
    (cs, behind words left corner c cs t h, ap (λ d. d ∷ cs) (same_taken words h.2 left c corner (ahead words c cs h) t))

pub one_more_read : {grid : Grid} (all words left : List (List ℕ)) (path : List Corner) (corner : Corner)
    → IsReadTo grid all words path → TakesCorner grid words corner left → IsReadTo grid all left (path ++ corner ∷ [])
one_more_read {grid} all words left path corner h t = record {
  adds = λ more m. subst (AreCornerWords grid all) (sym (append_assoc path (corner ∷ []) more))
      (h.adds (corner ∷ more) (joined words left corner more t m));
  only = λ whole w. let o = h.only whole w in let r = taken_only words left corner t o.0 o.1 in
      (r.0, r.1, o.2 ∙ ap (λ more. path ++ more) r.2 ∙ sym (append_assoc path (corner ∷ []) r.0));
}

pub stuck : {grid : Grid} (words : List (List ℕ)) → words ≢ [] → ((corner : Corner) → (left : List (List ℕ))
    → ¬ TakesCorner grid words corner left)
    → (more : List Corner) → ¬ AreCornerWords grid words more
stuck words some none [] h = some h
stuck words some none (c ∷ cs) h = none c h.2 (ahead words c cs h)

-- where no word is left, all words are the corners
pub all_read : {grid : Grid} (all words : List (List ℕ)) (path : List Corner) → IsReadTo grid all words path → words ≡ []
    → AreCornerWords grid all path
all_read {grid} all words path h e = subst (AreCornerWords grid all) (append-nil path) (h.adds [] e)
