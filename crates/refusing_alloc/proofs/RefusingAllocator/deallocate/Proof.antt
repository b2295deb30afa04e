-- The block goes back to the inner allocator, with what the caller handed over for it. A null block cannot be owned.
use Rattle.std.proofs.Common.{◌≡◌, ℕ, ◌+◌, ◌^◌, ◌<◌, List, [], ◌∷◌, refl, w64, Bor}
use Rattle.std.proofs.alloc.Calls.{Al, α, seen, token, gives_key, Gives, at_gives, Gives-goes, Gives-Gives}
use Rattle.std.proofs.raw_atomic.Walks.{proved}
use base.Fml.{Lft, Share, ffalse, flft, froom, fsep, ftrue}
use base.Logic.{SProp, ent, id⊢, never_e}
use contract.BorrowLft.{◌⊑◌, ⊑_trans}
use contract.Monad.{Fun, fact}
use contract.Running.{tables, tables_of}
use denote.Builtin.{usize, RawPtr, RefOf}
use denote.Exit.{yes}
use denote.Opens.{unhide}
use denote.Param.{bounded, param}
use denote.Plain.{uint_vals, uint_Tells}
use denote.RattleType.{owns}
use denote.RawPtr.{Ptr, block_ptr, null_ptr, ptr_val, rawptr_vals, rawptr_Tells}
use denote.Ref.{shr_vals}
use denote.Signature.{Slot, plain, types_at}
use denote.Steps.{heard, nothing}
use denote.Triple.Call.{calls_at}
use denote.Triple.Clauses.{Ended, Clauses}
use denote.Triple.Statement.{Triple}
use denote.Triple.Walked.{AllGo, Stays, Goes-dropped, ends_at, stay_dropped, walk_of}
use mir.MapTy.{inst_fn}
use mir.Syntax.{Args, Fn, Ty, a_type, dcons, dnil}
use mir.Val.{Val, vint, vptr, vunit}
use prog.Memory.{Memory, align, capped, size, up}
use prog.Routine.{Routine}
use prog.Wp.{Tables, WpFn}
use seplogic.Ra.Ura.{Ura}
use sound.WpLaws.{fm_of}
use types.ByLocal.{alloc_all, free_all, get, lands_as, look_at, pass_all, sets, through}
use types.Kit.{Item, ‵, raw, ◌⊛◌, later, given, ◌$◌, ◌∵◌, !, qed, by, move, keep, use1, split, split3, join, learn}
use types.Kit.{fsplit, fjoin, feq_i}
use types.Kit.{suffices, await, done}
use types.Logic.{Logic}
use types.Run.{addr, and_then, enter, fld, no_more, of_opd, returns, stop, unit_lit}
use Rattle.refusing_alloc.proofs.RefusingAllocator.deallocate.Code as code
use Rattle.refusing_alloc.proofs.RefusingAllocator.deallocate.Statement as stated
use Rattle.refusing_alloc.specs.contracts.Refusing as refusing
use Rattle.refusing_alloc.specs.contracts.RefusingAllocator.deallocate as promise
use Rattle.refusing_alloc.specs.contracts.RefusingAllocator.deallocate.Key as key

-- The function at an inner allocator Z, and what it still has of its parameters at its end: nothing.
module _ (Z : Al) where
  abbrev args : Args
  args = bounded (a_type ∷ []) (Z.row, tt) (dcons Z.d (dcons Z.drops dnil))

  abbrev body : Fn
  body = inst_fn args code.function

  abbrev heap : Slot 2
  heap = RefOf (0 ∷ []) tt (plain (λ _. refusing.the_row (param 0 Z.row))) (λ _. tt)

  abbrev ended : Ended
  ended = promise.ended Z.row Z.g Z.d Z.drops

  abbrev stayed : Stays ended.signature.params ended.kept
  stayed = (stay_dropped heap yes, (stay_dropped _ yes, (stay_dropped _ yes, (stay_dropped _ yes, tt))))

module _ (Z : Al) {M : Type 1} {𝓤 : Ura M} (𝓛 : Logic 𝓤) (at_mem : Memory → SProp 𝓤) (run : Routine → Fun 𝓤) where
  open 𝓛 use {H}

  abbrev clauses : Clauses 𝓤 (ended Z)
  clauses = promise.clauses Z.row Z.g Z.d Z.drops 𝓛 at_mem run

  -- `κ` is the `&self`'s lifetime, `ρ` that of the allocator's type; `n` and `a` are the size and the alignment for `τ`
  module _ (𝓣 : Tables 𝓤 𝓛.H) (freed : Triple 𝓤 (𝓣.C (gives_key Z)) (Gives Z 𝓛 at_mem run))
      (κ ρ : Lft) (q s : Share) (in_type : κ ⊑ ρ) (self : Bor (refusing.the_row Z.row).Denot) (n a : ℕ) (τ : Ty) where
    abbrev bound : Ptr → (walk_of 𝓛 (ended Z) (stayed Z) clauses).Ghost
    bound p = (
      (
        (κ, (ρ, tt)),
        (q, (s, tt)),
        (in_type, tt),
        (self, (p, (n, (a, tt)))),
        (shr_vals self, (rawptr_vals p, (vint w64 n ∷ [], (vint w64 a ∷ [], tt)))),
      ),
      τ,
    )

    abbrev passed : Ptr → List Val
    passed p = vptr self.ref_ptr.0 self.ref_ptr.1 ∷ ptr_val p ∷ vint w64 n ∷ vint w64 a ∷ []

    abbrev Post : Ptr → Val → SProp 𝓤
    Post p = (walk_of 𝓛 (ended Z) (stayed Z) clauses).post (bound p)

    abbrev Said : Type 0
    Said = (capped (size τ) ≡ n) × (capped (align τ) ≡ a)

    -- the tokens and the parameters, and the clauses, where the block is at `p` and `F` is what is owned there
    abbrev entered_with : Ptr → List (Item 𝓤) → List (Item 𝓤)
    entered_with p owned = ((‵ (flft κ q) ⊛ ‵ (flft ρ s) ⊛ ‵ ftrue)
        ⊛ ‵ (owns (types_at (ended Z).signature.params (bound p).0.0) (bound p).0.3 (bound p).0.4)) ∷ owned

    walk : n < 2 ^ 64 → a < 2 ^ 64 → (p : Ptr)
        → ent 𝓤 ((walk_of 𝓛 (ended Z) (stayed Z) clauses).pre (bound p)) (WpFn 𝓤 H 𝓣.C 𝓣.Λ (body Z) (passed p) (Post p))
    walk n_fits a_fits null_ptr =
        qed 𝓛 (entered_with null_ptr ((raw (fact 𝓤 (ρ ⊑ Z.row.lives)) ⊛ raw (fact 𝓤 Said)
        ⊛ ‵ (fsep ffalse (token Z self.now.inner τ null_ptr))) ∷ [])) ∵
        move ! (1 ∷ []) $ split3 ! $ move ! (2 ∷ []) $ fsplit ! $ keep ! (0 ∷ []) $ by ! (never_e 𝓤 _)
    walk n_fits a_fits (block_ptr b o) =
        let inner : Z.row.Denot = self.now.inner in
        let at : ℕ × ℕ = (self.ref_ptr.0, self.ref_ptr.1 + up (align (α Z)) 0) in
        let p : Ptr = block_ptr b o in
        let call : (Gives Z 𝓛 at_mem run).Ghost = at_gives Z 𝓛 at_mem run κ q at inner b o n a τ in
        qed 𝓛 (entered_with p ((raw (fact 𝓤 (ρ ⊑ Z.row.lives)) ⊛ raw (fact 𝓤 Said)
        ⊛ ‵ (fsep (froom τ b o) (token Z inner τ p))) ∷ [])) ∵
        move ! (1 ∷ []) $ split3 ! $ heard ! (ρ ⊑ Z.row.lives) (λ lives. heard ! Said (λ said. move ! (1 ∷ []) $
        split ! $ split ! $ move ! (2 ∷ []) $ fsplit ! $ fsplit ! $ move ! (1 ∷ []) $ unhide ! $ fsplit ! $ fsplit ! $
        use1 𝓛 (‵ (seen Z κ at inner)) (id⊢ 𝓤 _) $ keep ! (0 ∷ 5 ∷ 6 ∷ 7 ∷ []) $
        -- [the inner allocator, seen; κ's token; ρ's; the block and its token]
        enter ! 𝓣.C 𝓣.Λ (body Z) (passed p) _ $
        alloc_all ! (λ l. pass_all ! refl ((tt, tt), ((tt, tt), ((tt, record { fits = n_fits }), ((tt, record { fits = a_fits }), tt)))) $
        sets ! (addr ! (through ! refl (fld ! refl (stop !)))) refl (tt, tt) $
        join ! $ move ! (2 ∷ []) $ fsplit ! $ move ! (1 ∷ 2 ∷ []) $ join ! $ move ! (1 ∷ 0 ∷ []) $ join ! $
        use1 𝓛 (raw ((Gives Z 𝓛 at_mem run).pre call))
        (Gives-goes Z 𝓛 at_mem run κ q at inner (⊑_trans κ ρ Z.row.lives in_type lives) b o n a τ said.0 said.1 n_fits a_fits) $
        calls_at ! (fm_of 𝓤 H 𝓛.laws 𝓣) (Gives Z 𝓛 at_mem run) freed call
        (and_then ! (get ! refl) (and_then ! (get ! refl) (and_then ! (get ! refl) (and_then ! (get ! refl) (no_more !))))) (λ v.
        use1 𝓛 (later (given (v ≡ vunit) (‵ (flft κ q)))) (Gives-Gives Z 𝓛 at_mem run κ q at inner b o n a τ v) $
        await ! tt $ learn ! (λ is_unit. lands_as ! is_unit refl (tt, tt) $
        sets ! (of_opd ! (unit_lit !)) refl (tt, tt) $ returns ! (look_at ! 0 refl) $ free_all ! refl $
        suffices ! _ (ends_at 𝓛 (ended Z) (stayed Z) clauses (bound p) vunit tt (tt, (tt, (tt, (tt, tt)))) (tt, (tt, (tt, (tt, tt))))) $
        nothing ! $ feq_i ! (List Val) (vunit ∷ []) (vunit ∷ []) refl $
        nothing ! $ nothing ! $ fjoin ! $ nothing ! $ fjoin ! $ nothing ! $ fjoin ! $ nothing ! $ fjoin ! $ join ! $
        move ! (2 ∷ 3 ∷ []) $ join ! $ join ! $ done !)))))

pub deallocate_spec : {M : Type 1} → stated.statement M
unfolding tables_of
deallocate_spec 𝓤 𝓛 𝓜 𝓡 wired Y L g d drops met _ =
    let Z : Al = record { row = Y; laws = L; g = g; d = d; drops = drops } in
    let 𝓣 : Tables 𝓤 𝓛.H = tables_of 𝓤 𝓛.H 𝓜 (tables 𝓤 𝓛.H 𝓜 𝓡 𝓡.env) in
    let go : AllGo 𝓛 2 (ended Z).signature.params (ended Z).kept (stayed Z) = (
      Goes-dropped 𝓛 2 (heap Z) yes (λ κs x f. refl),
      (
        Goes-dropped 𝓛 2 (plain (λ _. RawPtr)) yes (λ κs x f. refl),
        (
          Goes-dropped 𝓛 2 (plain (λ _. usize)) yes (λ κs x f. refl),
          (Goes-dropped 𝓛 2 (plain (λ _. usize)) yes (λ κs x f. refl), tt),
        ),
      ),
    ) in
    proved 𝓛 (ended Z) (stayed Z) (clauses Z 𝓛 𝓜.mem 𝓡.returns) 𝓜 𝓡 go
    (key.name (args Z)) (body Z) (code.unfolded 𝓤 𝓛.H 𝓜 𝓡 wired (Y, tt) d drops)
    (λ κs. (shr_vals, (rawptr_vals, (uint_vals w64, (uint_vals w64, tt)))))
    (λ κs. ((λ r vs s. s.0), (rawptr_Tells, (uint_Tells w64, (uint_Tells w64, tt)))))
    (λ κs qs bounds a τ are. walk Z 𝓛 𝓜.mem 𝓡.returns 𝓣 (met.deallocate drops) κs.0 κs.1.0 qs.0 qs.1.0 bounds.0
    a.0 a.1.1.0 a.1.1.1.0 τ are.1.1.0.1 are.1.1.1.0.1 a.1.0)
