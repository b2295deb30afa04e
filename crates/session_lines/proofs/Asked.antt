-- Lines that ask for no corner.
use Rattle.std.proofs.Common.{◌≡◌, List, ◌∷◌, ℕ, subst}
use Rattle.geo_exact.specs.declared.corner.Corner.{Corner}
use Rattle.line_files.specs.TextNumbers.{IsCornerText}
use Rattle.line_files.specs.declared.grids.Grid.TheVariants.{Millimetres}
use Rattle.session_lines.specs.Lines.{IsLocateLine}

-- where the second word and the third are no corner's coordinates
pub no_corner_to_locate : (line words one two three : List (List ℕ)) (name x y : List ℕ)
    → words ≡ line → words ≡ name ∷ one → one ≡ x ∷ two → two ≡ y ∷ three
    → ((corner : Corner) → ¬ IsCornerText Millimetres x y corner)
    → (corner : Corner) → ¬ IsLocateLine line corner
no_corner_to_locate line words one two three name x y all first second third none corner h =
    let xs : h.x ≡ x = cc (h.are_words, all, first, second) in
    let ys : h.y ≡ y = cc (h.are_words, all, first, second, third) in
    none corner (subst (λ x. IsCornerText Millimetres x y corner) xs
    (subst (λ y. IsCornerText Millimetres h.x y corner) ys h.is_corner))
