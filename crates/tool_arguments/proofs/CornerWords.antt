-- Words of a command line that are read as corners, two by two.
use Rattle.std.proofs.Common.{◌≡◌, List, [], ◌∷◌, ◌++◌, ℕ, suc, ◌+◌, ◌*◌, ◌%◌, ◌<◌, length, map, Bor}
use Rattle.std.proofs.Common.{drop, get_or, refl, ap, sym, ◌∙◌, subst, arith}
use Rattle.std.proofs.Math.Seq.{drop-cons}
use Rattle.std.proofs.lemmas.List.{length-map}
use Rattle.geo_exact.specs.declared.corner.Corner.{Corner}
use Rattle.line_files.specs.TextNumbers.{IsCornerText, AreCornerWords}
use Rattle.line_files.specs.declared.grids.Grid.{Grid}
use Rattle.line_files.specs.own.EditWords.{TakesCorner}
use Rattle.line_files.proofs.CornerWords.{IsReadTo, one_more_read, stuck}

-- two words more
pub more_corners : (grid : Grid) (all left : List (List ℕ)) (x y : List ℕ) (corners : List Corner) (corner : Corner)
    → IsReadTo grid all (x ∷ y ∷ left) corners
    → IsCornerText grid x y corner → IsReadTo grid all left (corners ++ corner ∷ [])
more_corners grid all left x y corners corner h k =
    one_more_read all (x ∷ y ∷ left) left corners corner h record { x = x; y = y; are_words = refl; is_corner = k }

-- words that are no corners
same_text : (grid : Grid) (left rest : List (List ℕ)) (x y : List ℕ) (corner : Corner) → TakesCorner grid (x ∷ y ∷ left) corner rest
    → IsCornerText grid x y corner
same_text grid left rest x y corner t =
    let ex : t.x ≡ x = cc (t.are_words) in
    let ey : t.y ≡ y = cc (t.are_words) in
    subst (λ x. IsCornerText grid x y corner) ex (subst (λ y. IsCornerText grid t.x y corner) ey t.is_corner)

pub no_corner : (grid : Grid) (all left : List (List ℕ)) (x y : List ℕ) (corners whole : List Corner)
    → IsReadTo grid all (x ∷ y ∷ left) corners
    → ((corner : Corner) → ¬ IsCornerText grid x y corner) → ¬ AreCornerWords grid all whole
no_corner grid all left x y corners whole h none w =
    let o = h.only whole w in
    stuck (x ∷ y ∷ left) (λ e. absurd (cc)) (λ corner rest t. none corner (same_text grid left rest x y corner t)) o.0 o.1

-- words that are corners' coordinates are even in number
even_words : (grid : Grid) (all : List (List ℕ)) (corners : List Corner) → AreCornerWords grid all corners → length all ≡ 2 * length corners
even_words grid all [] h = ap length h
even_words grid all (corner ∷ corners) h = omega (arith, even_words grid h.2 corners h.5, ap length h.3)

pub odd_words : {A : Type 0} (grid : Grid) (text : A → List ℕ) (words : List A) (corners : List Corner) → (length words % 2 ≡ 0 → ⊥)
    → ¬ AreCornerWords grid (map text words) corners
odd_words grid text words corners odd h =
    absurd (odd (let e = even_words grid (map text words) corners h in omega (arith, e, length-map words text)))

-- two words, and those behind them
pub two_left : (words : List (Bor (List ℕ))) (d : Bor (List ℕ)) (i j k : ℕ) (x y : List ℕ)
    → x ≡ (get_or words i d).now → y ≡ (get_or words j d).now
    → j ≡ i + 1 → k ≡ i + 2 → j < length words
    → map (λ word. word.now) (drop i words) ≡ x ∷ y ∷ map (λ word. word.now) (drop k words)
two_left words d i j k x y hx hy ej ek l =
    let sj : j ≡ suc i = omega arith in
    let sk : k ≡ suc j = omega arith in
    let both : drop i words ≡ get_or words i d ∷ get_or words j d ∷ drop k words =
    drop-cons words i d (omega arith)
    ∙ ap (λ n. get_or words i d ∷ drop n words) (sym sj)
    ∙ ap (λ t. get_or words i d ∷ t) (drop-cons words j d l ∙ ap (λ n. get_or words j d ∷ drop n words) (sym sk)) in
    ap (map (λ word. word.now)) both
    ∙ ap (λ t. t ∷ (get_or words j d).now ∷ map (λ word. word.now) (drop k words)) (sym hx)
    ∙ ap (λ t. x ∷ t ∷ map (λ word. word.now) (drop k words)) (sym hy)
