-- What follows an answer, and so what one line comes to.
use Rattle.std.proofs.Common.{◌≡◌, ◌⊎◌, inl, inr, refl, sym, subst, ℕ, List, Option, None, Some, Result, Ok, Err}
use Rattle.std.specs.Prelude.{IfOk, IfErr, IfNone}
use Rattle.register_sessions.specs.declared.post.Next.{Next}
use Rattle.register_sessions.specs.declared.post.Next.TheVariants.{Line, End}
use Rattle.register_sessions.specs.declared.post.Trouble.{Trouble}
use Rattle.register_sessions.specs.declared.post.Trouble.TheVariants.{NoMemory, Failed}
use Rattle.register_sessions.specs.declared.post.Served.{Served}
use Rattle.register_sessions.specs.own.Posts.{Outbox, IsRefused, IsExcused, IsFollowed}

module _ {W : Type 0} (written : W → Option (List ℕ)) (failures : W → ℕ) (IsAnswer : Next → Outbox W → Type 0)
    (count length : ℕ) (same : count ≡ length) (asked half after : Outbox W) where
  -- it was answered, or it was said that there was no memory
  abbrev pub IsDone : Type 0
  IsDone = IsAnswer Line after ⊎ ((half : Outbox W) × IsRefused asked half × IsExcused written length half after)

  -- so it is where the next line follows
  pub served : (answered : Result Next Trouble) (told : Option Served) → IfOk answered (λ next. IsAnswer next half)
      → IfErr answered (λ trouble. trouble ≡ NoMemory → IsRefused asked half)
      → IsFollowed written failures count answered half after told
      → IfNone told IsDone
  served (Ok Line) told is refused followed = subst (λ s. IfNone s IsDone) (sym followed.0)
      (inl (subst (IsAnswer Line) (sym followed.1) is))
  served (Ok End) told is refused followed = subst (λ s. IfNone s IsDone) (sym followed.0) tt
  served (Err Failed) told is refused followed = subst (λ s. IfNone s IsDone) (sym followed.0) tt
  served (Err NoMemory) told is refused (inl excused) = subst (λ s. IfNone s IsDone) (sym excused.0)
      (inr (half, refused refl, subst (λ n. IsExcused written n half after) same excused.1))
  served (Err NoMemory) told is refused (inr deaf) = subst (λ s. IfNone s IsDone) (sym deaf) tt

pub if_none_weaker : {T : Type 0} (option : Option T) (P Q : Type 0) → (P → Q) → IfNone option P → IfNone option Q
if_none_weaker None P Q f h = f h
if_none_weaker (Some value) P Q f h = tt
