-- Either the counter says that this is the call to refuse, and the answer is `Err`, or it is the inner allocator's answer.
use Rattle.std.proofs.Common.{◌≡◌, ℕ, ◌+◌, ◌^◌, ◌<◌, Bool, true, false, List, [], ◌∷◌, Ok, Err, refl, w64, Bor}
use Rattle.std.proofs.VecSteps.Shapes.{after}
use Rattle.std.proofs.alloc.Calls.{Al, α, seen, token, Answer, answer_val, Answer-typed, Answer-Ok, Answer-err, answers}
use Rattle.std.proofs.alloc.Calls.{takes_key, Takes, at_takes, Answered, Takes-goes, Takes-gives}
use Rattle.std.proofs.raw_atomic.Walks.{proved}
use Rattle.std.specs.Allocator.{block_if_ok}
use base.Fml.{Lft, Share, flft, ftrue}
use base.Logic.{SProp, ent, id⊢}
use contract.BorrowLft.{◌⊑◌, ⊑_trans}
use contract.Monad.{Fun, fact}
use contract.Running.{tables, tables_of}
use denote.Builtin.{usize, RefOf}
use denote.Exit.{yes}
use denote.Opens.{unhide}
use denote.Param.{bounded, param}
use denote.Plain.{uint_vals, uint_Tells}
use denote.RattleType.{owns}
use denote.RawPtr.{block_ptr}
use denote.Ref.{shr_vals}
use denote.Signature.{Slot, plain, types_at}
use denote.Steps.{heard, nothing}
use denote.Triple.Call.{calls_at}
use denote.Triple.Clauses.{Ended, Clauses}
use denote.Triple.Statement.{Triple}
use denote.Triple.Table.{cited}
use denote.Triple.Walked.{AllGo, Stays, Goes-dropped, ends_at, stay_dropped, walk_of}
use mir.MapTy.{inst_fn}
use mir.Syntax.{Args, Fn, Ty, a_type, dcons, dnil}
use mir.Val.{Val, vbool, vint, vptr}
use prog.Memory.{Memory, align, capped, size, up}
use prog.Routine.{Routine}
use prog.Wp.{Tables, WpFn}
use seplogic.Ra.Ura.{Ura}
use sound.WpLaws.{fm_of}
use types.ByLocal.{alloc_all, env, free_all, get, lands_as, look_at, pass_all, sets, through}
use types.Kit.{‵, raw, ◌⊛◌, some, later, given, at_ret, ◌$◌, ◌∵◌, !, qed, by, move, keep, use0, use1, use2, split}
use types.Kit.{join, pick, learn}
use types.Kit.{fsplit, fjoin, suffices, await, done, ⋆}
use types.Logic.{Logic}
use types.Part.{agg}
use types.Run.{addr, and_then, branches, enter, exec, first, fld, lit, no_more, returns, returns_within, skips, stop}
use Rattle.refusing_alloc.proofs.CountedCalls.{Asks, asking, may_ask, was_asked}
use Rattle.refusing_alloc.proofs.RefusingAllocator.allocate.Code as code
use Rattle.refusing_alloc.proofs.RefusingAllocator.allocate.Statement as stated
use Rattle.refusing_alloc.proofs.is_refused.Met as is_refused
use Rattle.refusing_alloc.proofs.is_refused.Symbol as asked
use Rattle.refusing_alloc.specs.contracts.Refusing as refusing
use Rattle.refusing_alloc.specs.contracts.RefusingAllocator.allocate as promise
use Rattle.refusing_alloc.specs.contracts.RefusingAllocator.allocate.Key as key

-- The function at an inner allocator Z, and what it still has of its parameters at its end: nothing.
module _ (Z : Al) where
  abbrev args : Args
  args = bounded (a_type ∷ []) (Z.row, tt) (dcons Z.d (dcons Z.drops dnil))

  abbrev body : Fn
  body = inst_fn args code.function

  abbrev heap : Slot 2
  heap = RefOf (0 ∷ []) tt (plain (λ _. refusing.the_row (param 0 Z.row))) (λ _. tt)

  abbrev ended : Ended
  ended = promise.ended Z.row Z.g Z.d Z.drops

  abbrev stayed : Stays ended.signature.params ended.kept
  stayed = (stay_dropped heap yes, (stay_dropped _ yes, (stay_dropped _ yes, tt)))

module _ (Z : Al) {M : Type 1} {𝓤 : Ura M} (𝓛 : Logic 𝓤) (at_mem : Memory → SProp 𝓤) (run : Routine → Fun 𝓤) where
  open 𝓛 use {H}

  abbrev clauses : Clauses 𝓤 (ended Z)
  clauses = promise.clauses Z.row Z.g Z.d Z.drops 𝓛 at_mem run

  -- `κ` is the `&self`'s lifetime, `ρ` that of the allocator's type; `n` and `a` are the size and the alignment for `τ`
  module _ (κ ρ : Lft) (q s : Share) (in_type : κ ⊑ ρ) (self : Bor (refusing.the_row Z.row).Denot) (n a : ℕ) (τ : Ty) where
    abbrev bound : (walk_of 𝓛 (ended Z) (stayed Z) clauses).Ghost
    bound = (
      (
        (κ, (ρ, tt)),
        (q, (s, tt)),
        (in_type, tt),
        (self, (n, (a, tt))),
        (shr_vals self, (vint w64 n ∷ [], (vint w64 a ∷ [], tt))),
      ),
      τ,
    )

    abbrev passed : List Val
    passed = vptr self.ref_ptr.0 self.ref_ptr.1 ∷ vint w64 n ∷ vint w64 a ∷ []

    abbrev Post : Val → SProp 𝓤
    Post = (walk_of 𝓛 (ended Z) (stayed Z) clauses).post bound

    abbrev Said : Type 0
    Said = (capped (size τ) ≡ n) × (capped (align τ) ≡ a)

    -- What the function's end takes: the answer, its block if it has one, and the tokens that came in.
    ends : (v : Val) (answer : Answer.Denot)
        → ent 𝓤 (⋆ 𝓛 (‵ (Answer.own_val answer (v ∷ [])) ∷ ‵ (block_if_ok (token Z self.now.inner) τ answer)
        ∷ ‵ (flft κ q)
        ∷ (‵ (flft ρ s) ⊛ ‵ ftrue) ∷ [])) (Post v)
    ends v answer =
        qed 𝓛 (‵ (Answer.own_val answer (v ∷ [])) ∷ ‵ (block_if_ok (token Z self.now.inner) τ answer) ∷ ‵ (flft κ q)
        ∷ (‵ (flft ρ s) ⊛ ‵ ftrue) ∷ []) ∵
        suffices ! _ (ends_at 𝓛 (ended Z) (stayed Z) clauses bound v answer (tt, (tt, (tt, tt))) (tt, (tt, (tt, tt)))) $
        nothing ! $ nothing ! $ fjoin ! $ nothing ! $ fjoin ! $ nothing ! $ fjoin ! $ join ! $
        move ! (2 ∷ 3 ∷ []) $ join ! $ join ! $ done !

    module _ (𝓣 : Tables 𝓤 𝓛.H) (took : Triple 𝓤 (𝓣.C (takes_key Z)) (Takes Z 𝓛 at_mem run))
        (counted : Triple 𝓤 (𝓣.C asked.name) (Asks 𝓛 at_mem run)) where
      walk : n < 2 ^ 64 → a < 2 ^ 64
          → ent 𝓤 ((walk_of 𝓛 (ended Z) (stayed Z) clauses).pre bound) (WpFn 𝓤 H 𝓣.C 𝓣.Λ (body Z) passed Post)
      walk n_fits a_fits =
          let inner : Z.row.Denot = self.now.inner in
          let at : ℕ × ℕ = (self.ref_ptr.0, self.ref_ptr.1 + up (align (α Z)) 0) in
          let left : ℕ × ℕ = (self.ref_ptr.0, self.ref_ptr.1 + up 8 (up (align (α Z)) 0 + size (α Z))) in
          let question : (Asks 𝓛 at_mem run).Ghost = asking 𝓛 at_mem run κ q left self.now.left in
          let call : (Takes Z 𝓛 at_mem run).Ghost = at_takes Z 𝓛 at_mem run κ q at inner n a τ in
          qed 𝓛 (((‵ (flft κ q) ⊛ ‵ (flft ρ s) ⊛ ‵ ftrue)
          ⊛ ‵ (owns (types_at (ended Z).signature.params bound.0.0) bound.0.3 bound.0.4))
          ∷ (raw (fact 𝓤 (ρ ⊑ Z.row.lives)) ⊛ raw (fact 𝓤 Said)) ∷ []) ∵
          move ! (1 ∷ []) $ split ! $ heard ! (ρ ⊑ Z.row.lives) (λ lives. heard ! Said (λ said.
          split ! $ split ! $ move ! (2 ∷ []) $ fsplit ! $ fsplit ! $ move ! (1 ∷ []) $ unhide ! $ fsplit ! $ fsplit ! $
          use1 𝓛 (‵ (seen Z κ at inner)) (id⊢ 𝓤 _) $ move ! (1 ∷ []) $ fsplit ! $ keep ! (0 ∷ 6 ∷ 2 ∷ 7 ∷ []) $
          -- [the counter, seen; κ's token; the inner allocator, seen; ρ's token]
          enter ! 𝓣.C 𝓣.Λ (body Z) passed _ $
          alloc_all ! (λ l. pass_all ! refl ((tt, tt), ((tt, record { fits = n_fits }), ((tt, record { fits = a_fits }), tt))) $
          sets ! (addr ! (through ! refl (fld ! refl (stop !)))) refl (tt, tt) $
          use2 𝓛 (raw ((Asks 𝓛 at_mem run).pre question)) (may_ask 𝓛 at_mem run κ q left self.now.left) $
          calls_at ! (fm_of 𝓤 H 𝓛.laws 𝓣) (Asks 𝓛 at_mem run) counted question (and_then ! (get ! refl) (no_more !)) (λ b.
          use1 𝓛 (later (some (λ (refused : Bool). given (b ≡ vbool refused) (‵ (flft κ q)))))
          (was_asked 𝓛 at_mem run κ q left self.now.left b) $
          await ! tt $ pick ! (λ refused. learn ! (λ is_answer. lands_as ! is_answer refl (tt, tt) $
          first ! $ branches ! (get ! refl)
          (λ yes_refused.
          sets ! (agg ! (no_more !)) refl (tt, tt) $
          sets ! (agg ! (and_then ! (lit ! tt) (and_then ! (get ! refl) (no_more !)))) refl (Answer-typed false 0 0) $
          returns_within ! Post refl (look_at ! 0 refl) $ free_all ! refl $ keep ! (0 ∷ 2 ∷ []) $ nothing ! $
          use0 𝓛 (‵ (Answer.own_val (Err (record {})) (answer_val false 0 0 ∷ []))) (Answer-err 𝓛) $
          by ! (ends (answer_val false 0 0) (Err (record {}))))
          (λ not_refused.
          skips ! $ exec ! 𝓣.C 𝓣.Λ (env (body Z).locals l) (after 3 (body Z).body) (at_ret _ Post) $ move ! (1 ∷ []) $
          sets ! (addr ! (through ! refl (fld ! refl (stop !)))) refl (tt, tt) $
          use2 𝓛 (raw ((Takes Z 𝓛 at_mem run).pre call))
          (Takes-goes Z 𝓛 at_mem run κ q at inner (⊑_trans κ ρ Z.row.lives in_type lives) n a τ said.0 said.1 n_fits a_fits) $
          calls_at ! (fm_of 𝓤 H 𝓛.laws 𝓣) (Takes Z 𝓛 at_mem run) took call
          (and_then ! (get ! refl) (and_then ! (get ! refl) (and_then ! (get ! refl) (no_more !)))) (λ v.
          use1 𝓛 (later (raw (Answered Z 𝓛 at_mem run inner τ v) ⊛ ‵ (flft κ q)))
          (Takes-gives Z 𝓛 at_mem run κ q at inner n a τ v) $
          await ! tt $ split ! $
          answers Z ! at_mem run inner τ v
          (λ b o is_ok. fjoin ! $ lands_as ! is_ok refl (Answer-typed true b o) $ returns ! (look_at ! 0 refl) $ free_all ! refl $
          use0 𝓛 (‵ (Answer.own_val (Ok (block_ptr b o)) (answer_val true b o ∷ []))) (Answer-Ok 𝓛 b o) $
          by ! (ends (answer_val true b o) (Ok (block_ptr b o))))
          (λ is_err. nothing ! $ lands_as ! is_err refl (Answer-typed false 0 0) $ returns ! (look_at ! 0 refl) $ free_all ! refl $
          use0 𝓛 (‵ (Answer.own_val (Err (record {})) (answer_val false 0 0 ∷ []))) (Answer-err 𝓛) $
          by ! (ends (answer_val false 0 0) (Err (record {}))))))))))))

pub allocate_spec : {M : Type 1} → stated.statement M
unfolding tables_of
allocate_spec 𝓤 𝓛 𝓜 𝓡 wired Y L g d drops met _ =
    let Z : Al = record { row = Y; laws = L; g = g; d = d; drops = drops } in
    let 𝓣 : Tables 𝓤 𝓛.H = tables_of 𝓤 𝓛.H 𝓜 (tables 𝓤 𝓛.H 𝓜 𝓡 𝓡.env) in
    let counted : Triple 𝓤 (𝓣.C asked.name) (Asks 𝓛 𝓜.mem 𝓡.returns) =
    cited 𝓤 𝓛.H _ 𝓜 𝓡 𝓡.env asked.name (𝓡.env asked.name) refl
    (is_refused.met 𝓤 𝓛 𝓜 𝓡 (code.calls-refusing_alloc::is_refused 𝓡.env wired)) in
    let go : AllGo 𝓛 2 (ended Z).signature.params (ended Z).kept (stayed Z) = (
      Goes-dropped 𝓛 2 (heap Z) yes (λ κs x f. refl),
      (
        Goes-dropped 𝓛 2 (plain (λ _. usize)) yes (λ κs x f. refl),
        (Goes-dropped 𝓛 2 (plain (λ _. usize)) yes (λ κs x f. refl), tt),
      ),
    ) in
    proved 𝓛 (ended Z) (stayed Z) (clauses Z 𝓛 𝓜.mem 𝓡.returns) 𝓜 𝓡 go
    (key.name (args Z)) (body Z) (code.unfolded 𝓤 𝓛.H 𝓜 𝓡 wired (Y, tt) d drops)
    (λ κs. (shr_vals, (uint_vals w64, (uint_vals w64, tt))))
    (λ κs. ((λ r vs s. s.0), (uint_Tells w64, (uint_Tells w64, tt))))
    (λ κs qs bounds a τ are. walk Z 𝓛 𝓜.mem 𝓡.returns κs.0 κs.1.0 qs.0 qs.1.0 bounds.0 a.0 a.1.0 a.1.1.0 τ
    𝓣 (met.allocate drops) counted are.1.0.1 are.1.1.0.1)
