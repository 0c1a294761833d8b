-- A condition or a term that is read with some levels left is read alike with more, in whatever version. Assumes nothing.
use Rattle.std.proofs.Math.Path.{◌≡◌, refl}
use Rattle.std.specs.Prelude.{Bool, cond, ◌&&◌, List, leb}
use Rattle.std.proofs.Math.Bool.{true, false}
use Prim.Native.Nat.{ℕ, zero, suc, ◌+◌, ◌≤◌, ◌<◌}
use Rattle.std.proofs.Common.{arith, leb-true, leb-false}
use Rattle.names.specs.Fields.{Got, got, Reader, next, refuse, u8, choose, string_of, each, counted}
use Rattle.names.specs.Names.{plain, path_name}
use Rattle.names.specs.Paths.{path_of}
use Rattle.names.specs.Laws.Readers.{Keeps, Wider, next_wider, split, Each, each_below, choose_beyond, keys_up_to, ◌&◌}
use Rattle.condition.specs.Condition.{Condition, Term, One, Two, span, slot, binder, operator, arguments, argument_list, elements, element_list, unary, binary, predicate_of, comparison_of, exists_of, given, arith_op, condition_kinds, sum_of, count_of, aggregate_kinds, aggregate_of, arith_of, term_kinds, too_deep, condition_at, term_at}
use Rattle.names.specs.declared.refusal.Refusal.TheVariants.{UndefinedChoice, TooDeep}

-- read alike
same : {A : Type 0} (f : Reader A) → Wider f f
same f s at a n e = e

module _ {A B : Type 0} where
  -- a part that both read alike, then the rest
  then_wider : (g : Got A) (f k : A → ℕ → Got B) → ((a : A) (n : ℕ) → Keeps (f a n) (k a n)) → Keeps (next g f) (next g k)
  then_wider g f k rest = next_wider g g f k (λ _ _ i. i) rest

  -- the last part
  last_wider : (g h : Got A) (m : A → B) → Keeps g h → Keeps (next g (λ a n. got (m a) n)) (next h (λ a n. got (m a) n))
  last_wider g h m wide = next_wider g h _ _ wide (λ _ _ _ _ i. i)

cond_wider : {A : Type 0} (b : Bool) (f g h : Reader A) → Wider f g → Wider (cond b h f) (cond b h g)
cond_wider true f g h wide s at a n e = e
cond_wider false f g h wide s at a n e = wide s at a n e

-- a table's readers, each wider
table_wider : {A : Type 0} (bound : ℕ) (table other : List (ℕ × Reader A)) → keys_up_to bound table ≡ true → ((k : ℕ) → k < bound + 1 → Wider (choose k table) (choose k other)) → (k : ℕ) → Wider (choose k table) (choose k other)
table_wider bound table other keys below k s at a n e = go (leb k bound) refl
  where
    go : (b : Bool) → leb k bound ≡ b → choose k other s at ≡ got a n
    go true h = let l = leb-true k bound h in below k (omega arith) s at a n e
    go false h = let i = choose_beyond s at bound k (leb-false k bound h) table keys in let z : ◌≡◌ {A = ℕ} 0 1 = cc in absurd (omega arith)

module _ (v : ℕ) (f g : Reader Condition) (t u : Bool → Reader Term) (wide : Wider f g) (wider : (b : Bool) → Wider (t b) (u b)) where
  arguments_wider : (n : ℕ) → Wider (arguments v f t n) (arguments v g u n)
  unfolding arguments
  arguments_wider zero s at a m e = e
  arguments_wider (suc n) s at a m e =
      then_wider (string_of plain s at) _ _
      (λ _ p. then_wider (path_of s p) _ _
      (λ _ q. next_wider (t false s q) (u false s q) _ _ (wider false s q)
      (λ _ r. last_wider (arguments v f t n s r) (arguments v g u n s r) _ (arguments_wider n s r)))) a m e

  elements_wider : (n : ℕ) → Wider (elements v f t n) (elements v g u n)
  unfolding elements
  elements_wider zero s at a m e = e
  elements_wider (suc n) s at a m e =
      next_wider (t true s at) (u true s at) _ _ (wider true s at)
      (λ _ r. last_wider (elements v f t n s r) (elements v g u n s r) _ (elements_wider n s r)) a m e

  argument_list_wider : Wider (argument_list v f t) (argument_list v g u)
  unfolding argument_list
  argument_list_wider s at = then_wider (u8 s at) _ _ (λ n p. arguments_wider n s p)

  element_list_wider : Wider (element_list v f t) (element_list v g u)
  unfolding element_list
  element_list_wider s at = then_wider (u8 s at) _ _ (λ n p. elements_wider n s p)

  body_wider : {A : Type 0} (m : Condition → A) (s : List ℕ) (at : ℕ) → Keeps (next (f s at) (λ a n. got (m a) n)) (next (g s at) (λ a n. got (m a) n))
  body_wider m s at = last_wider (f s at) (g s at) m (wide s at)

  unary_wider : (k : Reader One) → Wider (unary v f t k) (unary v g u k)
  unfolding unary
  unary_wider k s at = then_wider (span s at) _ _ (λ _ p. then_wider (k s p) _ _ (λ _ n. body_wider _ s n))

  binary_wider : (k : Reader Two) → Wider (binary v f t k) (binary v g u k)
  unfolding binary
  binary_wider k s at = then_wider (span s at) _ _ (λ _ p. then_wider (k s p) _ _ (λ _ n. next_wider (f s n) (g s n) _ _ (wide s n) (λ _ m. body_wider _ s m)))

  predicate_wider : Wider (predicate_of v f t) (predicate_of v g u)
  unfolding predicate_of
  predicate_wider s at =
      then_wider (span s at) _ _
      (λ _ n. then_wider (span s n) _ _
      (λ _ m. then_wider (counted (each (string_of path_name)) s m) _ _
      (λ _ p. then_wider (string_of plain s p) _ _
      (λ _ q. last_wider (argument_list v f t s q) (argument_list v g u s q) _ (argument_list_wider s q)))))

  comparison_wider : Wider (comparison_of v f t) (comparison_of v g u)
  unfolding comparison_of
  comparison_wider s at =
      then_wider (span s at) _ _
      (λ _ n. then_wider (operator s n) _ _
      (λ _ m. next_wider (t false s m) (u false s m) _ _ (wider false s m)
      (λ _ p. last_wider (t false s p) (u false s p) _ (wider false s p))))

  exists_wider : Wider (exists_of v f t) (exists_of v g u)
  unfolding exists_of
  exists_wider s at = then_wider (span s at) _ _ (λ _ n. then_wider (binder s n) _ _ (λ _ m. body_wider _ s m))

  sum_wider : Wider (sum_of v f t) (sum_of v g u)
  unfolding sum_of
  sum_wider s at = then_wider (span s at) _ _ (λ _ n. then_wider (slot s n) _ _ (λ _ m. then_wider (counted (each binder) s m) _ _ (λ _ p. body_wider _ s p)))

  count_wider : Wider (count_of v f t) (count_of v g u)
  unfolding count_of
  count_wider s at = then_wider (span s at) _ _ (λ _ n. then_wider (counted (each binder) s n) _ _ (λ _ m. body_wider _ s m))

  arith_wider : (b : Bool) → Wider (arith_of v f t b) (arith_of v g u b)
  unfolding arith_of
  arith_wider b s at = then_wider (given v arith_op s at) _ _ (λ _ p. next_wider (t b s p) (u b s p) _ _ (wider b s p) (λ _ n. last_wider (t b s n) (u b s n) _ (wider b s n)))

  aggregate_kinds_wider : (k : ℕ) → Wider (choose k (aggregate_kinds v f t)) (choose k (aggregate_kinds v g u))
  unfolding choose aggregate_kinds Each keys_up_to
  aggregate_kinds_wider =
      table_wider 3 (aggregate_kinds v f t) (aggregate_kinds v g u) refl
      (each_below (λ k. Wider (choose k (aggregate_kinds v f t)) (choose k (aggregate_kinds v g u))) 4
      (tt
      & same _
      & sum_wider
      & count_wider
      & same _))

  aggregate_wider : Wider (aggregate_of v f t) (aggregate_of v g u)
  unfolding aggregate_of
  aggregate_wider s at = then_wider (u8 s at) _ _ (λ k n. aggregate_kinds_wider k s n)

  condition_kinds_wider : (k : ℕ) → Wider (choose k (condition_kinds v f t)) (choose k (condition_kinds v g u))
  unfolding choose condition_kinds Each keys_up_to
  condition_kinds_wider =
      table_wider 13 (condition_kinds v f t) (condition_kinds v g u) refl
      (each_below (λ k. Wider (choose k (condition_kinds v f t)) (choose k (condition_kinds v g u))) 14
      (tt
      & same _
      & binary_wider _
      & binary_wider _
      & unary_wider _
      & unary_wider _
      & unary_wider _
      & binary_wider _
      & predicate_wider
      & comparison_wider
      & exists_wider
      & same _
      & same _
      & same _
      & unary_wider _))

  term_kinds_wider : (b : Bool) (k : ℕ) → Wider (choose k (term_kinds v f t b)) (choose k (term_kinds v g u b))
  unfolding choose term_kinds Each keys_up_to
  term_kinds_wider b =
      table_wider 14 (term_kinds v f t b) (term_kinds v g u b) refl
      (each_below (λ k. Wider (choose k (term_kinds v f t b)) (choose k (term_kinds v g u b))) 15
      (tt
      & same _
      & same _
      & same _
      & same _
      & same _
      & same _
      & same _
      & same _
      & same _
      & same _
      & (λ s at. last_wider (element_list v f t s at) (element_list v g u s at) _ (element_list_wider s at))
      & cond_wider b _ _ _ (λ s at. last_wider (aggregate_of v f t s at) (aggregate_of v g u s at) _ (aggregate_wider s at))
      & arith_wider b
      & same _
      & same _))

-- with no level left nothing is read
pub none_left : {A : Type 0} (last : ℕ) (s : List ℕ) (at : ℕ) {a : A} {n : ℕ} → too_deep last s at ≡ got a n → ⊥
unfolding too_deep
none_left {A} last s at {a} {n} e = let x = split (u8 s at) _ e in go (leb 1 x.value && leb x.value last) x.place x.rest
  where
    go : (b : Bool) (p : ℕ) → cond b (refuse {A = A} TooDeep) (refuse UndefinedChoice) s p ≡ got a n → ⊥
    go true p i = let z : ◌≡◌ {A = ℕ} 0 1 = cc in omega arith
    go false p i = let z : ◌≡◌ {A = ℕ} 0 1 = cc in omega arith

record AllWider (v l m : ℕ) : Type 0 where
  conditions : Wider (condition_at v l) (condition_at v m)
  terms : (b : Bool) → Wider (term_at v l b) (term_at v m b)

all_wider : (v l m : ℕ) → l ≤ m → AllWider v l m
unfolding condition_at term_at
all_wider v zero m h = record { conditions = λ s at a n e. absurd (none_left 13 s at e); terms = λ b s at a n e. absurd (none_left 14 s at e) }
all_wider v (suc l) zero h = absurd (omega arith)
all_wider v (suc l) (suc m) h =
    let w = all_wider v l m (omega arith) in
    record {
      conditions = λ s at. then_wider (u8 s at) _ _ (λ k p. condition_kinds_wider v (condition_at v l) (condition_at v m) (term_at v l) (term_at v m) w.conditions w.terms k s p);
      terms = λ b s at. then_wider (u8 s at) _ _ (λ k p. term_kinds_wider v (condition_at v l) (condition_at v m) (term_at v l) (term_at v m) w.conditions w.terms b k s p);
    }

pub condition_wider : (v l m : ℕ) → l ≤ m → Wider (condition_at v l) (condition_at v m)
condition_wider v l m h = (all_wider v l m h).conditions

pub term_wider : (v : ℕ) (b : Bool) (l m : ℕ) → l ≤ m → Wider (term_at v l b) (term_at v m b)
term_wider v b l m h = (all_wider v l m h).terms b

-- A term that is read below an array is read alike elsewhere: a position denotes a term whatever stands above it.
module _ (v : ℕ) (f : Reader Condition) (t : Bool → Reader Term) (wide : Wider (t true) (t false)) where
  arith_anywhere : Wider (arith_of v f t true) (arith_of v f t false)
  unfolding arith_of
  arith_anywhere s at = then_wider (given v arith_op s at) _ _ (λ _ p. next_wider (t true s p) (t false s p) _ _ (wide s p) (λ _ n. last_wider (t true s n) (t false s n) _ (wide s n)))

  kinds_anywhere : (k : ℕ) → Wider (choose k (term_kinds v f t true)) (choose k (term_kinds v f t false))
  unfolding choose term_kinds Each keys_up_to
  kinds_anywhere =
      table_wider 14 (term_kinds v f t true) (term_kinds v f t false) refl
      (each_below (λ k. Wider (choose k (term_kinds v f t true)) (choose k (term_kinds v f t false))) 15
      (tt
      & same _
      & same _
      & same _
      & same _
      & same _
      & same _
      & same _
      & same _
      & same _
      & same _
      & same _
      & (λ s at a n e. let z : ◌≡◌ {A = ℕ} 0 1 = cc in absurd (omega arith))
      & arith_anywhere
      & same _
      & same _))

pub term_anywhere : (v l : ℕ) → Wider (term_at v l true) (term_at v l false)
unfolding term_at
term_anywhere v zero s at a n e = e
term_anywhere v (suc l) s at a n e = then_wider (u8 s at) _ _ (λ k p. kinds_anywhere v (condition_at v l) (term_at v l) (term_anywhere v l) k s p) a n e
