-- Ids that are dealt one by one: each worker has each n-th of them.
use Rattle.std.proofs.Common.{◌≡◌, ◌⊎◌, inl, inr, ⊎_elim, refl, sym, ◌∙◌, ap, subst, arith, ℕ, zero, suc, ◌+◌, ◌-◌, ◌%◌, ◌<◌}
use Rattle.std.proofs.Common.{◌≤◌, List, [], ◌∷◌, ◌++◌, map, length, append_assoc, append-nil, slice_index_or, slice_set}
use Rattle.std.proofs.lemmas.Bool.{cases_lt}
use Rattle.std.proofs.Math.Nat.{mod-eq_of_lt, add-mod_right}
use Rattle.overlay_work.specs.Sharing.{joined}
use Rattle.parcel_runs.specs.own.Dealing.{each_nth, AreDealtInTurn}

-- ---- the lists
pub list_here : {X : Type 0} (f : X → List ℕ) (xs : List X) (k : ℕ) (x : X) → k < length xs
    → slice_index_or (map f (slice_set xs k x)) k [] ≡ f x
list_here f [] k x less = absurd (omega (arith, less))
list_here f (y ∷ xs) zero x less = refl
list_here f (y ∷ xs) (suc k) x less = list_here f xs k x (omega (arith, less))

pub list_at : {X : Type 0} (f : X → List ℕ) (xs : List X) (k : ℕ) (d : X) → k < length xs
    → slice_index_or (map f xs) k [] ≡ f (slice_index_or xs k d)
list_at f [] k d less = absurd (omega (arith, less))
list_at f (y ∷ xs) zero d less = refl
list_at f (y ∷ xs) (suc k) d less = list_at f xs k d (omega (arith, less))

pub list_elsewhere : {X : Type 0} (f : X → List ℕ) (xs : List X) (k : ℕ) (x : X) (other : ℕ) → (other ≡ k → ⊥)
    → slice_index_or (map f (slice_set xs k x)) other [] ≡ slice_index_or (map f xs) other []
list_elsewhere f [] k x other apart = refl
list_elsewhere f (y ∷ xs) zero x zero apart = absurd (apart refl)
list_elsewhere f (y ∷ xs) zero x (suc other) apart = refl
list_elsewhere f (y ∷ xs) (suc k) x zero apart = refl
list_elsewhere f (y ∷ xs) (suc k) x (suc other) apart = list_elsewhere f xs k x other (λ e. apart (ap suc e))

none_at : (lists : List (List ℕ)) (k : ℕ) → joined lists ≡ [] → slice_index_or lists k [] ≡ []
none_at [] k none = refl
none_at ([] ∷ lists) zero none = refl
none_at ([] ∷ lists) (suc k) none = none_at lists k none
none_at ((id ∷ ids) ∷ lists) k none = absurd (let e : suc (length (ids ++ joined lists)) ≡ 0 = ap length none in omega (arith, e))

-- ---- turns
-- so many turns after the next worker's is this worker's
abbrev pub IsAhead : (n next ahead worker : ℕ) → Type 0
IsAhead n next ahead worker = (next + ahead ≡ worker) ⊎ (next + ahead ≡ worker + n)

-- after a worker's turn is that of the one behind, or the first's
abbrev pub IsNext : (n worker next : ℕ) → Type 0
IsNext n worker next = ((next ≡ worker + 1) × (worker + 1 < n)) ⊎ ((next ≡ 0) × (worker + 1 ≡ n))

-- what each worker has, and what it will have of the rest, are its ids
abbrev pub AreInTurnSoFar : (n next : ℕ) (ids rest : List ℕ) → List (List ℕ) → Type 0
AreInTurnSoFar n next ids rest lists = (worker ahead : ℕ) → worker < n → ahead < n → IsAhead n next ahead worker
    → slice_index_or lists worker [] ++ each_nth n ahead rest ≡ each_nth n worker ids

pub next_in_turn : (n worker : ℕ) → worker < n → IsNext n worker ((worker + 1) % n)
next_in_turn n worker own = ⊎_elim
    (λ (less : worker + 1 < n). inl (mod-eq_of_lt less, less))
    (λ (more : n ≤ worker + 1).
    let last : worker + 1 ≡ 0 + n = omega (arith, own, more) in
    inr (ap (λ k. k % n) last ∙ add-mod_right 0 n ∙ mod-eq_of_lt (omega (arith, own)), omega (arith, last)))
    (cases_lt (worker + 1) n)

whole_turn : (n worker next ahead : ℕ) → worker < n → ahead < n → IsNext n worker next → IsAhead n next ahead worker → ahead ≡ n - 1
whole_turn n worker next ahead own less (inl t) (inl a) = let e = t.0 in absurd (omega (arith, e, a))
whole_turn n worker next ahead own less (inl t) (inr a) = let e = t.0 in omega (arith, e, a)
whole_turn n worker next ahead own less (inr t) (inl a) = let e = t.0 in let f = t.1 in omega (arith, e, f, a)
whole_turn n worker next ahead own less (inr t) (inr a) = let e = t.0 in absurd (omega (arith, e, a, less))

one_turn_less : (n turn next worker ahead : ℕ) → worker < n → ahead < n → (worker < turn) ⊎ (turn < worker) → IsNext n turn next
    → IsAhead n next ahead worker → (suc ahead < n) × IsAhead n turn (suc ahead) worker
one_turn_less n turn next worker ahead own less apart (inl t) (inl a) =
    let e = t.0 in let f = t.1 in (omega (arith, e, a, own, less), inl (omega (arith, e, a)))
one_turn_less n turn next worker ahead own less (inl b) (inl t) (inr a) =
    let e = t.0 in (omega (arith, e, a, b), inr (omega (arith, e, a)))
one_turn_less n turn next worker ahead own less (inr b) (inl t) (inr a) =
    let e = t.0 in absurd (omega (arith, e, a, b, less))
one_turn_less n turn next worker ahead own less (inl b) (inr t) (inl a) =
    let e = t.0 in let f = t.1 in (omega (arith, e, f, a, b), inr (omega (arith, e, f, a)))
one_turn_less n turn next worker ahead own less (inr b) (inr t) (inl a) =
    let e = t.0 in let f = t.1 in absurd (omega (arith, e, f, a, b, own))
one_turn_less n turn next worker ahead own less apart (inr t) (inr a) =
    let e = t.0 in absurd (omega (arith, e, a, less))

-- ---- dealing
pub begins_in_turn : (n : ℕ) (ids : List ℕ) (lists : List (List ℕ)) → joined lists ≡ [] → AreInTurnSoFar n 0 ids ids lists
begins_in_turn n ids lists none worker ahead own less at =
    let same : ahead ≡ worker = ⊎_elim (λ e. omega (arith, e)) (λ e. absurd (omega (arith, e, less))) at in
    ap (λ l. l ++ each_nth n ahead ids) (none_at lists worker none) ∙ ap (λ k. each_nth n k ids) same

differs : (turn worker : ℕ) → (worker < turn) ⊎ (turn < worker) → worker ≡ turn → ⊥
differs turn worker (inl b) e = omega (arith, b, e)
differs turn worker (inr b) e = omega (arith, b, e)

pub deals_on : (n turn next : ℕ) (ids : List ℕ) (id : ℕ) (rest : List ℕ) (lists new : List (List ℕ)) → turn < n → IsNext n turn next
    → slice_index_or new turn [] ≡ slice_index_or lists turn [] ++ id ∷ []
    → ((other : ℕ) → (other ≡ turn → ⊥) → slice_index_or new other [] ≡ slice_index_or lists other [])
    → AreInTurnSoFar n turn ids (id ∷ rest) lists → AreInTurnSoFar n next ids rest new
deals_on n turn next ids id rest lists new own turns here elsewhere so_far worker ahead is less at =
    let list = slice_index_or lists turn [] in
    let behind : (worker < turn) ⊎ (turn < worker) → slice_index_or new worker [] ++ each_nth n ahead rest ≡ each_nth n worker ids =
    (λ apart.
    let more = one_turn_less n turn next worker ahead is less apart turns at in
    ap (λ l. l ++ each_nth n ahead rest) (elsewhere worker (differs turn worker apart))
    ∙ so_far worker (suc ahead) is more.0 more.1) in
    let dealt_here : worker ≡ turn → slice_index_or new worker [] ++ each_nth n ahead rest ≡ each_nth n worker ids =
    (λ same.
    let last : ahead ≡ n - 1 = whole_turn n turn next ahead own less turns (subst (IsAhead n next ahead) same at) in
    subst (λ w. slice_index_or new w [] ++ each_nth n ahead rest ≡ each_nth n w ids) (sym same)
    (ap (λ l. l ++ each_nth n ahead rest) here ∙ append_assoc list (id ∷ []) (each_nth n ahead rest)
    ∙ ap (λ k. list ++ id ∷ each_nth n k rest) last ∙ so_far turn 0 own (omega (arith, own)) (inl (omega arith)))) in
    ⊎_elim (λ (b : worker < turn). behind (inl b)) (λ (b : turn ≤ worker). ⊎_elim
    (λ (a : turn < worker). behind (inr a))
    (λ (a : worker ≤ turn). dealt_here (omega (arith, a, b)))
    (cases_lt turn worker)) (cases_lt worker turn)

pub ends_in_turn : (n next : ℕ) (ids : List ℕ) (lists : List (List ℕ)) → next < n → AreInTurnSoFar n next ids [] lists
    → AreDealtInTurn n ids lists
ends_in_turn n next ids lists own so_far worker is = ⊎_elim
    (λ (less : worker < next). sym (append-nil (slice_index_or lists worker []))
    ∙ so_far worker (worker + n - next) is (omega (arith, less, own)) (inr (omega (arith, less, own))))
    (λ (more : next ≤ worker). sym (append-nil (slice_index_or lists worker []))
    ∙ so_far worker (worker - next) is (omega (arith, more, is)) (inl (omega (arith, more))))
    (cases_lt worker next)
