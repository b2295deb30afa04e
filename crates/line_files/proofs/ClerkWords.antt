-- The words of a clerk's line, taken one after the other.
use Rattle.std.proofs.Common.{◌≡◌, ◌≢◌, inl, inr, ℕ, ◌+◌, List, [], ◌∷◌, ◌++◌, refl, ap, sym, ◌∙◌, subst, codes}
use Rattle.std.proofs.Common.{arith, append-nil, Option, None, Some, IsTrue, false}
use Rattle.std.specs.Prelude.{is_some, IfSome, IfNone}
use Rattle.geo_exact.specs.declared.corner.Corner.{Corner}
use Rattle.ring_edits.specs.declared.edit.Edit.{Edit}
use Rattle.ring_edits.specs.declared.edit.Edit.TheVariants.{Split, Merge, Move, Insert, Straighten}
use Rattle.line_files.specs.TextNumbers.{IsNumber, AreCornerWords}
use Rattle.line_files.specs.ClerkFile.{ArePath, IsSplitLine, IsMergeLine, IsMoveLine, IsInsertLine, IsStraightenLine}
use Rattle.line_files.specs.ClerkFile.{SayEdit, SayAnEdit, SaysEdit, words_of}
use Rattle.line_files.specs.TextLines.{IsSkipped, IsBad, IsFirstBad, FirstSays}
use Rattle.line_files.specs.declared.grids.Grid.{Grid}
use Rattle.line_files.specs.own.EditWords.{TakesNumber, TakesCorner, AreAPath}
use Rattle.line_files.proofs.CornerWords.{ahead, behind, same_corners, IsReadTo, one_more_read, all_read}
use Rattle.line_files.proofs.Numerals.{one_number}
use Rattle.line_files.proofs.Said.{IsGrammar}

-- ---- a path
-- corners are read, and these words are left; where none is left, none was read
pub record IsPathTo (grid : Grid) (all left : List (List ℕ)) : Type 0 where
  pub path : List Corner
  pub is_read : IsReadTo grid all left path
  pub is_open : left ≡ [] → path ≡ []

-- before the first word none is read
pub read_none : {grid : Grid} (words : List (List ℕ)) → IsReadTo grid words words []
read_none words = record { adds = λ more h. h; only = λ whole h. (whole, h, refl) }

pub path_begins : {grid : Grid} (words : List (List ℕ)) → IsPathTo grid words words
path_begins words = record { path = []; is_read = read_none words; is_open = λ e. refl }

-- one more corner, where words are left
pub path_goes_on : {grid : Grid} (all words left : List (List ℕ)) (taken : Option Corner) → IsPathTo grid all words
    → IsTrue (is_some taken) → IfSome taken (λ corner. TakesCorner grid words corner left) → left ≢ [] → IsPathTo grid all left
path_goes_on all words left None h is t some = absurd (cc)
path_goes_on all words left (Some corner) h is t some = record {
  path = h.path ++ corner ∷ [];
  is_read = one_more_read all words left h.path corner h.is_read t;
  is_open = λ e. absurd (some e);
}

some_behind : (path : List Corner) (corner : Corner) → path ++ corner ∷ [] ≢ []
some_behind [] corner e = absurd (cc)
some_behind (c ∷ cs) corner e = absurd (cc)

-- the last corner, where none are left
pub path_ends : {grid : Grid} (all words left : List (List ℕ)) (taken : Option Corner) → IsPathTo grid all words
    → IsTrue (is_some taken) → IfSome taken (λ corner. TakesCorner grid words corner left) → left ≡ [] → AreAPath grid all
path_ends all words left None h is t e = absurd (cc)
path_ends all words left (Some corner) h is t e = (
  h.path ++ corner ∷ [],
  record {
    are_corners = all_read all left (h.path ++ corner ∷ []) (one_more_read all words left h.path corner h.is_read t) e;
    has_one = some_behind h.path corner;
  },
)

-- where no corner follows, what is read is a path only if all are it
ended : {grid : Grid} (all words : List (List ℕ)) (path whole more : List Corner)
    → ((corner : Corner) → (left : List (List ℕ)) → ¬ TakesCorner grid words corner left)
    → AreCornerWords grid words more → whole ≡ path ++ more → ArePath grid all whole → (words ≡ []) × ArePath grid all path
ended {grid} all words path whole [] none m e w = (m, subst (ArePath grid all) (e ∙ append-nil path) w)
ended all words path whole (c ∷ cs) none m e w = absurd (none c m.2 (ahead words c cs m))

pub path_is_read : {grid : Grid} (all words : List (List ℕ)) (path : List Corner) → IsReadTo grid all words path
    → ((corner : Corner) → (left : List (List ℕ)) → ¬ TakesCorner grid words corner left) → AreAPath grid all → ArePath grid all path
path_is_read all words path h none w = let o = h.only w.0 w.1.are_corners in
    (ended all words path w.0 o.0 none o.1 o.2 w.1).1

pub no_path : {grid : Grid} (all words : List (List ℕ)) (taken : Option Corner) → IsPathTo grid all words → is_some taken ≡ false
    → IfNone taken ((corner : Corner) → (left : List (List ℕ)) → ¬ TakesCorner grid words corner left) → ¬ AreAPath grid all
no_path all words (Some corner) h is none w = absurd (cc)
no_path all words None h is none w = let o = h.is_read.only w.0 w.1.are_corners in
    let r = ended all words h.path w.0 o.0 none o.1 o.2 w.1 in r.1.has_one (h.is_open r.0)

-- ---- which edits words can say, by the first of them
same_byte : (a b : ℕ) (xs ys : List ℕ) (v w : List (List ℕ)) → (a ∷ xs) ∷ v ≡ (b ∷ ys) ∷ w → a ≡ b
same_byte a b xs ys v w e = cc

split_or_merge : {v w : List (List ℕ)} → codes "split" ∷ v ≡ codes "merge" ∷ w → ⊥
split_or_merge {v} {w} e = absurd (let k : 115 ≡ 109 = same_byte _ _ _ _ v w e in omega (arith, k))

same_second_byte : (a b c : ℕ) (xs ys : List ℕ) (v w : List (List ℕ)) → (a ∷ b ∷ xs) ∷ v ≡ (a ∷ c ∷ ys) ∷ w → b ≡ c
same_second_byte a b c xs ys v w e = cc

split_or_straighten : {v w : List (List ℕ)} → codes "split" ∷ v ≡ codes "straighten" ∷ w → ⊥
split_or_straighten {v} {w} e = absurd (let k : 112 ≡ 116 = same_second_byte _ _ _ _ _ v w e in omega (arith, k))

module _ {A : Type 0} (grid : Grid) (words : List (List ℕ)) where
  pub only_split : (edit : Edit A) → SayEdit grid (codes "split" ∷ words) edit
      → (id : ℕ) × (path : List Corner) × (edit ≡ Split id path) × IsSplitLine grid (codes "split" ∷ words) id path
  only_split (Split id path) h = (id, path, refl, h)
  only_split (Merge a b) h = absurd (split_or_merge h.are_words)
  only_split (Move a b path) h = let e : codes "split" ≡ codes "move" = cc in absurd (cc)
  only_split (Insert from to at) h = let e : codes "split" ≡ codes "insert" = cc in absurd (cc)
  only_split (Straighten at) h = absurd (split_or_straighten h.are_words)

  pub only_merge : (edit : Edit A) → SayEdit grid (codes "merge" ∷ words) edit
      → (a : ℕ) × (b : ℕ) × (edit ≡ Merge a b) × IsMergeLine (codes "merge" ∷ words) a b
  only_merge (Split id path) h = absurd (split_or_merge (sym h.are_words))
  only_merge (Merge a b) h = (a, b, refl, h)
  only_merge (Move a b path) h = let e : codes "merge" ≡ codes "move" = cc in absurd (cc)
  only_merge (Insert from to at) h = let e : codes "merge" ≡ codes "insert" = cc in absurd (cc)
  only_merge (Straighten at) h = let e : codes "merge" ≡ codes "straighten" = cc in absurd (cc)

  pub only_move : (edit : Edit A) → SayEdit grid (codes "move" ∷ words) edit
      → (a : ℕ) × (b : ℕ) × (path : List Corner) × (edit ≡ Move a b path) × IsMoveLine grid (codes "move" ∷ words) a b path
  only_move (Split id path) h = let e : codes "move" ≡ codes "split" = cc in absurd (cc)
  only_move (Merge a b) h = let e : codes "move" ≡ codes "merge" = cc in absurd (cc)
  only_move (Move a b path) h = (a, b, path, refl, h)
  only_move (Insert from to at) h = let e : codes "move" ≡ codes "insert" = cc in absurd (cc)
  only_move (Straighten at) h = let e : codes "move" ≡ codes "straighten" = cc in absurd (cc)

  pub only_insert : (edit : Edit A) → SayEdit grid (codes "insert" ∷ words) edit
      → (from : Corner) × (to : Corner) × (at : Corner) × (edit ≡ Insert from to at)
      × IsInsertLine grid (codes "insert" ∷ words) from to at
  only_insert (Split id path) h = let e : codes "insert" ≡ codes "split" = cc in absurd (cc)
  only_insert (Merge a b) h = let e : codes "insert" ≡ codes "merge" = cc in absurd (cc)
  only_insert (Move a b path) h = let e : codes "insert" ≡ codes "move" = cc in absurd (cc)
  only_insert (Insert from to at) h = (from, to, at, refl, h)
  only_insert (Straighten at) h = let e : codes "insert" ≡ codes "straighten" = cc in absurd (cc)

  pub only_straighten : (edit : Edit A) → SayEdit grid (codes "straighten" ∷ words) edit
      → (at : Corner) × (edit ≡ Straighten at) × IsStraightenLine grid (codes "straighten" ∷ words) at
  only_straighten (Split id path) h = absurd (split_or_straighten (sym h.are_words))
  only_straighten (Merge a b) h = let e : codes "straighten" ≡ codes "merge" = cc in absurd (cc)
  only_straighten (Move a b path) h = let e : codes "straighten" ≡ codes "move" = cc in absurd (cc)
  only_straighten (Insert from to at) h = let e : codes "straighten" ≡ codes "insert" = cc in absurd (cc)
  only_straighten (Straighten at) h = (at, refl, h)

-- ---- words say one edit
same_number : (n m : ℕ) (xs ys : List ℕ) → xs ≡ ys → IsNumber xs n → IsNumber ys m → n ≡ m
same_number n m xs ys e h k = one_number ys n m (subst (λ t. IsNumber t n) e h) k

same_path : {grid : Grid} (xs ys : List (List ℕ)) (p q : List Corner) → xs ≡ ys → ArePath grid xs p → ArePath grid ys q → p ≡ q
same_path {grid} xs ys p q e h k = same_corners grid ys p q (subst (λ t. AreCornerWords grid t p) e h.are_corners) k.are_corners

pub one_edit : {A : Type 0} (grid : Grid) (words : List (List ℕ)) (x y : Edit A) → SayEdit grid words x → SayEdit grid words y → x ≡ y
one_edit grid words (Split id path) y h k =
    let o = only_split grid (h.parcel ∷ h.places) y (subst (λ w. SayEdit grid w y) h.are_words k) in
    let parcels : h.parcel ≡ o.3.parcel = cc (o.3.are_words) in
    let places : h.places ≡ o.3.places = cc (o.3.are_words) in
    let ids : id ≡ o.0 = same_number _ _ _ _ parcels h.is_parcel o.3.is_parcel in
    let paths : path ≡ o.1 = same_path _ _ _ _ places h.are_places o.3.are_places in
    cc (o.2)
one_edit grid words (Merge a b) y h k =
    let o = only_merge grid (h.first ∷ h.second ∷ []) y (subst (λ w. SayEdit grid w y) h.are_words k) in
    let firsts : h.first ≡ o.3.first = cc (o.3.are_words) in
    let seconds : h.second ≡ o.3.second = cc (o.3.are_words) in
    let ids : a ≡ o.0 = same_number _ _ _ _ firsts h.is_first o.3.is_first in
    let others : b ≡ o.1 = same_number _ _ _ _ seconds h.is_second o.3.is_second in
    cc (o.2)
one_edit grid words (Move a b path) y h k =
    let o = only_move grid (h.first ∷ h.second ∷ h.places) y (subst (λ w. SayEdit grid w y) h.are_words k) in
    let firsts : h.first ≡ o.4.first = cc (o.4.are_words) in
    let seconds : h.second ≡ o.4.second = cc (o.4.are_words) in
    let places : h.places ≡ o.4.places = cc (o.4.are_words) in
    let ids : a ≡ o.0 = same_number _ _ _ _ firsts h.is_first o.4.is_first in
    let others : b ≡ o.1 = same_number _ _ _ _ seconds h.is_second o.4.is_second in
    let paths : path ≡ o.2 = same_path _ _ _ _ places h.are_places o.4.are_places in
    cc (o.3)
one_edit grid words (Insert from to at) y h k =
    let o = only_insert grid h.places y (subst (λ w. SayEdit grid w y) h.are_words k) in
    let places : h.places ≡ o.4.places = cc (o.4.are_words) in
    let lists : from ∷ to ∷ at ∷ [] ≡ o.0 ∷ o.1 ∷ o.2 ∷ [] =
    same_corners grid o.4.places _ _ (subst (λ w. AreCornerWords grid w (from ∷ to ∷ at ∷ [])) places h.are_places) o.4.are_places in
    cc (o.3)
one_edit grid words (Straighten at) y h k =
    let o = only_straighten grid h.places y (subst (λ w. SayEdit grid w y) h.are_words k) in
    let places : h.places ≡ o.2.places = cc (o.2.are_words) in
    let lists : at ∷ [] ≡ o.0 ∷ [] =
    same_corners grid o.2.places _ _ (subst (λ w. AreCornerWords grid w (at ∷ [])) places h.are_places) o.2.are_places in
    cc (o.1)

-- ---- that they say an edit with a path
pub split_said : {A : Type 0} (grid : Grid) (words left : List (List ℕ)) (id : ℕ) → TakesNumber words id left → AreAPath grid left
    → SayAnEdit A grid (codes "split" ∷ words)
split_said grid words left id t h = (
  Split id h.0,
  record {
    parcel = t.word;
    places = left;
    are_words = ap (λ words. codes "split" ∷ words) t.are_words;
    is_parcel = t.is_number;
    are_places = h.1;
  },
)

pub move_said : {A : Type 0} (grid : Grid) (words one two : List (List ℕ)) (a b : ℕ) → TakesNumber words a one → TakesNumber one b two
    → AreAPath grid two → SayAnEdit A grid (codes "move" ∷ words)
move_said grid words one two a b t u h = (
  Move a b h.0,
  record {
    first = t.word;
    second = u.word;
    places = two;
    are_words = ap (λ words. codes "move" ∷ words) (t.are_words ∙ ap (λ words. t.word ∷ words) u.are_words);
    is_first = t.is_number;
    is_second = u.is_number;
    are_places = h.1;
  },
)

-- ---- why they say nothing
module _ {A : Type 0} (grid : Grid) (words : List (List ℕ)) where
  pub no_split_number : ((n : ℕ) → (left : List (List ℕ)) → ¬ TakesNumber words n left) → (edit : Edit A)
      → ¬ SayEdit grid (codes "split" ∷ words) edit
  no_split_number none edit h =
      let o = only_split grid words edit h in
      none o.0 o.3.places record { word = o.3.parcel; are_words = cc (o.3.are_words); is_number = o.3.is_parcel }

  pub no_merge_first : ((n : ℕ) → (left : List (List ℕ)) → ¬ TakesNumber words n left) → (edit : Edit A)
      → ¬ SayEdit grid (codes "merge" ∷ words) edit
  no_merge_first none edit h =
      let o = only_merge grid words edit h in
      none o.0 (o.3.second ∷ []) record { word = o.3.first; are_words = cc (o.3.are_words); is_number = o.3.is_first }

  pub no_merge_second : (a : ℕ) (more : List (List ℕ)) → TakesNumber words a more
      → ((n : ℕ) → (left : List (List ℕ)) → ¬ TakesNumber more n left)
      → (edit : Edit A) → ¬ SayEdit grid (codes "merge" ∷ words) edit
  no_merge_second a more t none edit h =
      let o = only_merge grid words edit h in
      none o.1 [] record { word = o.3.second; are_words = cc (o.3.are_words); is_number = o.3.is_second }

  pub no_move_first : ((n : ℕ) → (left : List (List ℕ)) → ¬ TakesNumber words n left) → (edit : Edit A)
      → ¬ SayEdit grid (codes "move" ∷ words) edit
  no_move_first none edit h =
      let o = only_move grid words edit h in
      none o.0 (o.4.second ∷ o.4.places) record { word = o.4.first; are_words = cc (o.4.are_words); is_number = o.4.is_first }

  pub no_move_second : (a : ℕ) (more : List (List ℕ)) → TakesNumber words a more
      → ((n : ℕ) → (left : List (List ℕ)) → ¬ TakesNumber more n left)
      → (edit : Edit A) → ¬ SayEdit grid (codes "move" ∷ words) edit
  no_move_second a more t none edit h =
      let o = only_move grid words edit h in
      none o.1 o.4.places record { word = o.4.second; are_words = cc (o.4.are_words); is_number = o.4.is_second }

  -- the places of an edit that puts in a corner
  insert_places : (edit : Edit A) → SayEdit grid (codes "insert" ∷ words) edit
      → (from : Corner) × (to : Corner) × (at : Corner) × AreCornerWords grid words (from ∷ to ∷ at ∷ [])
  insert_places edit h =
      let o = only_insert grid words edit h in
      let same : o.4.places ≡ words = cc (o.4.are_words) in
      (o.0, o.1, o.2, subst (λ w. AreCornerWords grid w (o.0 ∷ o.1 ∷ o.2 ∷ [])) same o.4.are_places)

  pub no_insert_from : ((corner : Corner) → (left : List (List ℕ)) → ¬ TakesCorner grid words corner left) → (edit : Edit A)
      → ¬ SayEdit grid (codes "insert" ∷ words) edit
  no_insert_from none edit h = let p = insert_places edit h in none p.0 p.3.2 (ahead words p.0 (p.1 ∷ p.2 ∷ []) p.3)

  pub no_insert_to : (from : Corner) (one : List (List ℕ)) → TakesCorner grid words from one
      → ((corner : Corner) → (left : List (List ℕ)) → ¬ TakesCorner grid one corner left)
      → (edit : Edit A) → ¬ SayEdit grid (codes "insert" ∷ words) edit
  no_insert_to from one t none edit h =
      let p = insert_places edit h in
      let q = behind words one from p.0 (p.1 ∷ p.2 ∷ []) t p.3 in
      none p.1 q.2 (ahead one p.1 (p.2 ∷ []) q)

  pub no_insert_at : (from to : Corner) (one two : List (List ℕ)) → TakesCorner grid words from one → TakesCorner grid one to two
      → ((corner : Corner) → (left : List (List ℕ)) → ¬ TakesCorner grid two corner left) → (edit : Edit A)
      → ¬ SayEdit grid (codes "insert" ∷ words) edit
  no_insert_at from to one two t u none edit h =
      let p = insert_places edit h in
      let q = behind words one from p.0 (p.1 ∷ p.2 ∷ []) t p.3 in
      let r = behind one two to p.1 (p.2 ∷ []) u q in
      none p.2 r.2 (ahead two p.2 [] r)

  -- the place of an edit that takes out a corner
  straighten_place : (edit : Edit A) → SayEdit grid (codes "straighten" ∷ words) edit → (at : Corner) × AreCornerWords grid words (at ∷ [])
  straighten_place edit h =
      let o = only_straighten grid words edit h in
      let same : o.2.places ≡ words = cc (o.2.are_words) in
      (o.0, subst (λ w. AreCornerWords grid w (o.0 ∷ [])) same o.2.are_places)

  pub no_straighten_at : ((corner : Corner) → (left : List (List ℕ)) → ¬ TakesCorner grid words corner left) → (edit : Edit A)
      → ¬ SayEdit grid (codes "straighten" ∷ words) edit
  no_straighten_at none edit h = let p = straighten_place edit h in none p.0 p.1.2 (ahead words p.0 [] p.1)

-- ---- a line says one edit
pair_same : {X Y : Type 0} (x y : X × Y) → x.0 ≡ y.0 → x.1 ≡ y.1 → x ≡ y
pair_same (a, b) (c, d) p q = cc

pub edits_are_grammar : {A : Type 0} (grid : Grid) → IsGrammar (SaysEdit {A = A} grid)
edits_are_grammar {A} grid = record {
  unique = λ number line x y h k. pair_same x y (h.is_number ∙ sym k.is_number) (one_edit grid (words_of line) x.1 y.1 h.is_edit k.is_edit);
}

pub bad_line : {A : Type 0} (grid : Grid) (number : ℕ) (line : List ℕ) → ¬ IsSkipped line
    → ((edit : Edit A) → ¬ SayEdit grid (words_of line) edit)
    → IsBad (SaysEdit {A = A} grid) number line
bad_line grid number line apart none = record { is_not_skipped = apart; says_nothing = λ x k. none x.1 k.is_edit }

-- ---- what an edit's corners are allocated by does not matter
abbrev retyped : {A : Type 0} (B : Type 0) → Edit A → Edit B
retyped B (Split id path) = Split id path
retyped B (Merge a b) = Merge a b
retyped B (Move a b path) = Move a b path
retyped B (Insert from to at) = Insert from to at
retyped B (Straighten at) = Straighten at

say_retyped : {A : Type 0} (B : Type 0) (grid : Grid) (words : List (List ℕ)) (edit : Edit A) → SayEdit grid words edit
    → SayEdit grid words (retyped B edit)
say_retyped B grid words (Split id path) h = h
say_retyped B grid words (Merge a b) h = h
say_retyped B grid words (Move a b path) h = h
say_retyped B grid words (Insert from to at) h = h
say_retyped B grid words (Straighten at) h = h

bad_retyped : (A B : Type 0) (grid : Grid) (number : ℕ) (line : List ℕ) → IsBad (SaysEdit {A = A} grid) number line
    → IsBad (SaysEdit {A = B} grid) number line
bad_retyped A B grid number line h = record {
  is_not_skipped = h.is_not_skipped;
  says_nothing = λ x k. h.says_nothing (x.0, retyped A x.1) record {
    is_number = k.is_number;
    is_edit =
        say_retyped A grid (words_of line) x.1 k.is_edit;
  };
}

pub first_bad_retyped : (A B : Type 0) (grid : Grid) (number : ℕ) (lines : List (List ℕ)) (n : ℕ)
    → IsFirstBad (SaysEdit {A = A} grid) number lines n
    → IsFirstBad (SaysEdit {A = B} grid) number lines n
first_bad_retyped A B grid number [] n h = h
first_bad_retyped A B grid number (line ∷ lines) n h = elim h [
  | inl k ↦ inl (bad_retyped A B grid number line k.0, k.1)
  | inr k ↦ inr (λ b. k.0 (bad_retyped B A grid number line b), first_bad_retyped A B grid (number + 1) lines n k.1)
]

says_retyped : (A B : Type 0) (grid : Grid) (number : ℕ) (line : List ℕ) → ((x : ℕ × Edit A) × SaysEdit grid number line x)
    → ((x : ℕ × Edit B) × SaysEdit grid number line x)
says_retyped A B grid number line said = (
  (said.0.0, retyped B said.0.1),
  record {
    is_number = said.1.is_number;
    is_edit = say_retyped B grid (words_of line) said.0.1 said.1.is_edit;
  },
)

pub first_says_retyped : (A B : Type 0) (grid : Grid) (number : ℕ) (lines : List (List ℕ)) → FirstSays (SaysEdit {A = A} grid) number lines
    → FirstSays (SaysEdit {A = B} grid) number lines
first_says_retyped A B grid number [] h = h
first_says_retyped A B grid number (line ∷ lines) h = elim h [
  | inl k ↦ inl (k.0, first_says_retyped A B grid (number + 1) lines k.1)
  | inr k ↦ inr (k.0, says_retyped A B grid number line k.1)
]
