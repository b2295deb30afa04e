-- A call of `is_refused`, for a walk through its caller: what the caller hands it, and what it has afterwards. The answer is
-- some Bool: an atomic word says nothing of what it holds, so both answers have to be followed.
use Rattle.std.proofs.Common.{◌≡◌, ℕ, List, [], ◌∷◌, Bool, refl, ap}
use base.Fml.{Lft, Share, flft, fsep, ftrue}
use base.Logic.{SProp, ent, ex, guard, id⊢, sep}
use contract.Monad.{Fun}
use denote.Builtin.{bool}
use denote.Memory.{hidden_shr}
use denote.RattleType.{RattleType}
use denote.Steps.{nothing, only}
use denote.Triple.Spec.{triple_of}
use denote.Triple.Statement.{Contract}
use mir.Val.{Val, vbool, vptr}
use prog.Memory.{Memory}
use prog.Routine.{Routine}
use seplogic.Ra.Ura.{Ura}
use types.Kit.{‵, raw, ◌⊛◌, some, later, ◌$◌, ◌∵◌, !, qed, move, keep, use1, split, join, pick, fjoin, feq_i, feq_l}
use types.Kit.{check, show}
use types.Kit.{await, updating, now as at_once, done}
use types.Logic.{Logic, sem}
use Rattle.refusing_alloc.specs.contracts.is_refused as is_refused
use Rattle.std.specs.contracts.sync.atomic.AtomicU64 as AtomicU64

abbrev pub Counter : RattleType
Counter = AtomicU64.the_row

module _ {M : Type 1} {𝓤 : Ura M} (𝓛 : Logic 𝓤) (at_mem : Memory → SProp 𝓤) (run : Routine → Fun 𝓤) where
  open 𝓛 use {H, A}

  abbrev pub Asks : Contract 𝓤
  Asks = triple_of 𝓛 is_refused.signature (is_refused.spec 𝓛 at_mem run)

  -- `at` is where the counter lies
  module _ (κ : Lft) (q : Share) (at : ℕ × ℕ) (counter : Counter.Denot) where
    abbrev pub asking : Asks.Ghost
    asking = (((κ, tt), (q, tt), tt, (record { ref_ptr = at; now = counter }, tt), (vptr at.0 at.1 ∷ [], tt)), tt)

    -- a shared counter and a share of its lifetime's token are all that it is handed
    pub may_ask : ent 𝓤 (sep 𝓤 (sem 𝓛 (hidden_shr Counter κ counter at.0 at.1)) (A.lft κ q)) (Asks.pre asking)
    may_ask =
        qed 𝓛 (‵ (hidden_shr Counter κ counter at.0 at.1) ∷ ‵ (flft κ q) ∷ []) ∵
        feq_i ! (List Val) (vptr at.0 at.1 ∷ []) (vptr at.0 at.1 ∷ []) refl $ fjoin ! $
        nothing ! $ move ! (1 ∷ []) $ fjoin ! $
        nothing ! $ move ! (2 ∷ []) $ join ! $ join ! $
        nothing ! $ move ! (1 ∷ []) $ done !

    -- the token comes back, with an answer
    pub was_asked : (v : Val)
        → ent 𝓤 (Asks.post asking v) (H.⇛ (ex 𝓤 (λ (refused : Bool). guard 𝓤 (v ≡ vbool refused) (A.lft κ q))))
    was_asked v =
        qed 𝓛 (raw (Asks.post asking v) ∷ []) ∵ updating ! $
        use1 𝓛 (later (some (λ (refused : Bool). ((‵ (flft κ q) ⊛ ‵ ftrue) ⊛ ‵ (bool.own_val refused (v ∷ [])))
        ⊛ some (λ (left : Unit {0} × Unit {0}). ‵ (fsep ftrue ftrue) ⊛ ‵ ftrue)))) (id⊢ 𝓤 _) $
        await ! tt $ pick ! (λ refused.
        split ! $ split ! $ move ! (1 ∷ []) $ feq_l ! (λ e. split ! $ at_once ! $
        show ! (λ (answer : Bool). guard 𝓤 (v ≡ vbool answer) (A.lft κ q)) refused $ check ! (ap only e) $ keep !
        (0 ∷ []) $ done !))
