-- Of a text that is gathered for a writer: what the laws of a sink rest on.
use Rattle.std.specs.Prelude.{ℕ, ◌+◌, List, [], ◌++◌, length, take, Option, None, Some}
use Rattle.std.proofs.Common.{ap, sym, ◌∙◌, subst, ⊎_elim, append_assoc, append-nil}
use Rattle.std.proofs.Math.Nat.{le_of_lt}
use Rattle.std.proofs.Math.Seq.{take-append-add, take-append_seam}
use Rattle.std.proofs.lemmas.Bool.{cases_lt}
use Rattle.std.proofs.lemmas.List.{take-append-le, take_all}
use Rattle.std.specs.Io.KnownBytes.{Appends}
use Rattle.text_pieces.specs.Beginnings.{AppendsBeginning}
use Rattle.text_pieces.specs.Pending.{Passes}

-- what is appended twice is appended together
pub Appends-trans : (a b c : Option (List ℕ)) (xs ys : List ℕ) → Appends a b xs → Appends b c ys
    → Appends a c (xs ++ ys)
Appends-trans None b c xs ys h k = tt
Appends-trans (Some x) None c xs ys h k = absurd h
Appends-trans (Some x) (Some y) None xs ys h k = absurd k
Appends-trans (Some x) (Some y) (Some z) xs ys h k = k ∙ ap (λ t. t ++ ys) h ∙ append_assoc x xs ys

-- nothing is appended to what stays
pub Appends-nothing : (a : Option (List ℕ)) → Appends a a []
Appends-nothing None = tt
Appends-nothing (Some x) = sym (append-nil x)

-- a beginning of a text is one of a longer text
pub begins_more : (old new : Option (List ℕ)) (xs ys : List ℕ) → AppendsBeginning old new xs
    → AppendsBeginning old new (xs ++ ys)
begins_more old new xs ys h =
    ⊎_elim
    (λ longer. (
      length xs,
      subst (Appends old new) (take_all h.0 xs (le_of_lt longer) ∙ sym (take-append_seam xs ys)) h.1,
    ))
    (λ within. (h.0, subst (Appends old new) (sym (take-append-le h.0 xs ys within)) h.1))
    (cases_lt (length xs) h.0)

-- a beginning behind what was appended before
pub begins_behind : (old mid new : Option (List ℕ)) (xs ys : List ℕ) → Appends old mid xs
    → AppendsBeginning mid new ys → AppendsBeginning old new (xs ++ ys)
begins_behind old mid new xs ys h k = (
  length xs + k.0,
  subst (Appends old new) (sym (take-append-add xs ys k.0)) (Appends-trans old mid new xs (take k.0 ys) h k.1),
)

-- no piece
pub passes_nothing : (known : Option (List ℕ)) (pending : List ℕ) → Passes known known pending [] pending
passes_nothing known pending = record { sent = []; are_all = append-nil pending; is_written = Appends-nothing known }

-- two pieces are one
pub passes_both : (old mid new : Option (List ℕ)) (p q r xs ys : List ℕ) → Passes old mid p xs q
    → Passes mid new q ys r → Passes old new p (xs ++ ys) r
passes_both old mid new p q r xs ys h k = record {
  sent = h.sent ++ k.sent;
  are_all = sym (append_assoc p xs ys) ∙ ap (λ t. t ++ ys) h.are_all ∙ append_assoc h.sent q ys
      ∙ ap (λ t. h.sent ++ t) k.are_all
      ∙ sym (append_assoc h.sent k.sent r);
  is_written = Appends-trans old mid new h.sent k.sent h.is_written k.is_written;
}

-- a piece that passed, and a beginning of the next
pub begins_later : (old mid new : Option (List ℕ)) (p q xs ys : List ℕ) → Passes old mid p xs q
    → AppendsBeginning mid new (q ++ ys)
    → AppendsBeginning old new (p ++ (xs ++ ys))
begins_later old mid new p q xs ys h k =
    subst (AppendsBeginning old new)
    (sym (append_assoc h.sent q ys) ∙ ap (λ t. t ++ ys) (sym h.are_all) ∙ append_assoc p xs ys)
    (begins_behind old mid new h.sent (q ++ ys) h.is_written k)

-- a beginning of a piece is one of the piece with more behind it
pub begins_before : (old new : Option (List ℕ)) (p xs ys : List ℕ) → AppendsBeginning old new (p ++ xs)
    → AppendsBeginning old new (p ++ (xs ++ ys))
begins_before old new p xs ys h =
    subst (AppendsBeginning old new) (append_assoc p xs ys) (begins_more old new (p ++ xs) ys h)
