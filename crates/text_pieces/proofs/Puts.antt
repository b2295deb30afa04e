-- A list of bytes that is put piece by piece.
use Rattle.std.proofs.Common.{◌≡◌, ℕ, ◌+◌, List, [], ◌++◌, take, drop, Option, None, Some, refl, ap, sym, ◌∙◌, subst, append-nil}
use Rattle.std.proofs.Math.Seq.{take-add}
use Rattle.std.proofs.lemmas.List.{drop-drop, take-append-drop}
use Rattle.std.specs.Io.KnownBytes.{Appends, Keeps}
use Rattle.text_pieces.specs.Beginnings.{AppendsBeginning}
use Rattle.text_pieces.specs.Pending.{Passes}
use Rattle.text_pieces.specs.own.Gathering.{Appends-trans, Appends-nothing, begins_behind}

-- so many of the bytes are written, and the others are left
pub record HasPut (old new : Option (List ℕ)) (bytes rest : List ℕ) : Type 0 where
  pub count : ℕ
  pub left : rest ≡ drop count bytes
  pub appended : Appends old new (take count bytes)

-- what is appended and then kept is appended
Appends-keeps : (a b c : Option (List ℕ)) (xs : List ℕ) → Appends a b xs → Keeps b c → Appends a c xs
Appends-keeps None b c xs h k = tt
Appends-keeps (Some x) None c xs h k = absurd h
Appends-keeps (Some x) (Some y) None xs h k = absurd k
Appends-keeps (Some x) (Some y) (Some z) xs h k = k ∙ h

-- at first nothing is written
pub nothing_put : (known : Option (List ℕ)) (bytes : List ℕ) → HasPut known known bytes bytes
nothing_put known bytes = record { count = 0; left = refl; appended = Appends-nothing known }

-- one more piece is put
pub more_put : (old mid new : Option (List ℕ)) (bytes rest left : List ℕ) (n : ℕ) → HasPut old mid bytes rest
    → Appends mid new (take n rest) → left ≡ drop n rest → HasPut old new bytes left
more_put old mid new bytes rest left n h k e = record {
  count = h.count + n;
  left = e ∙ ap (drop n) h.left ∙ drop-drop n h.count bytes;
  appended = rw (take-add h.count n bytes) (Appends-trans old mid new _ _ h.appended (rw h.left at k));
}

-- where nothing is left, all is written
pub all_put : (old new : Option (List ℕ)) (bytes rest : List ℕ) → HasPut old new bytes rest → rest ≡ [] → Appends old new bytes
all_put old new bytes rest h e =
    let whole : take h.count bytes ++ [] ≡ bytes = ap (λ t. take h.count bytes ++ t) (sym e ∙ h.left)
    ∙ take-append-drop h.count bytes in
    let same : take h.count bytes ≡ bytes = sym (append-nil (take h.count bytes)) ∙ whole in
    subst (λ t. Appends old new t) same h.appended

-- where a put keeps what is written, a beginning is written
pub beginning_put : (old mid new : Option (List ℕ)) (bytes rest : List ℕ) → HasPut old mid bytes rest → Keeps mid new
    → AppendsBeginning old new bytes
beginning_put old mid new bytes rest h k = (h.count, Appends-keeps old mid new _ h.appended k)

-- ---- pieces of a text whose end is pending
-- a piece that found room
pub passes_room : (known : Option (List ℕ)) (pending piece : List ℕ) → Passes known known pending piece (pending ++ piece)
passes_room known pending piece = record { sent = []; are_all = refl; is_written = Appends-nothing known }

-- what was pending went out, and the piece behind it
pub passes_all : (old mid new : Option (List ℕ)) (pending piece : List ℕ) → Appends old mid pending
    → Appends mid new piece → Passes old new pending piece []
passes_all old mid new pending piece h k =
    record {
      sent = pending ++ piece;
      are_all = sym (append-nil (pending ++ piece));
      is_written =
          Appends-trans old mid new pending piece h k;
    }

-- a text that passed behind nothing, of which the end goes out
pub all_passed : (old mid new : Option (List ℕ)) (p q xs : List ℕ) → p ≡ [] → Passes old mid p xs q
    → Appends mid new q → Appends old new xs
all_passed old mid new p q xs none h k =
    subst (Appends old new) (sym h.are_all ∙ ap (λ t. t ++ xs) none) (Appends-trans old mid new h.sent q h.is_written k)

-- or a beginning of its end
pub beginning_passed : (old mid new : Option (List ℕ)) (p q xs : List ℕ) → p ≡ [] → Passes old mid p xs q
    → AppendsBeginning mid new q
    → AppendsBeginning old new xs
beginning_passed old mid new p q xs none h k =
    subst (AppendsBeginning old new) (sym h.are_all ∙ ap (λ t. t ++ xs) none) (begins_behind old mid new h.sent q h.is_written k)

-- a beginning of a text behind nothing
pub begins_alone : (old new : Option (List ℕ)) (p xs : List ℕ) → p ≡ [] → AppendsBeginning old new (p ++ xs)
    → AppendsBeginning old new xs
begins_alone old new p xs none h = subst (AppendsBeginning old new) (ap (λ t. t ++ xs) none) h
