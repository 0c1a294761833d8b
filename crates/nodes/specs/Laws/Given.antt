-- What version 3 brought, as it was read: an Arith's operator, an entity's id. Assumes nothing.
use Rattle.std.specs.Prelude.{◌≡◌, refl, Bool, true, false, cond, List, ℕ, ◌+◌, leb}
use Rattle.std.proofs.Math.Path.{sym, ap}
use Rattle.std.proofs.Common.{◌∙◌, arith}
use Rattle.std.proofs.Math.Option.{Option, none, some}
use Rattle.names.specs.Fields.{got, Reader, next, u8, choose, string_of}
use Rattle.names.specs.Names.{plain, path_name}
use Rattle.names.specs.Laws.Readers.{split, u8_view, got_value, got_place, Each, keys_up_to}
use Rattle.condition.specs.Condition.{Entity, given, ArithOp, arith_ops, arith_op, entity_fields}
use Rattle.nodes.specs.Offsets.{op_length}
use Rattle.nodes.specs.Laws.Choices.{by_kind}

-- a field that version 3 brought: nothing was read below it, and what the field says from then on
pub record Said {A : Type 0} (f : Reader A) (s : List ℕ) (at : ℕ) (o : Option A) (n : ℕ) : Type 0 where
  pub value : A
  pub reads : f s at ≡ got value n
  pub whole : o ≡ some value

module _ {A : Type 0} (v : ℕ) (f : Reader A) (s : List ℕ) (at : ℕ) {o : Option A} {n : ℕ} where
  pub not_given : leb v 2 ≡ true → given v f s at ≡ got o n → n ≡ at
  unfolding given
  not_given h e = let i : got none at ≡ got o n = rw h at e in sym (got_place i)

  pub is_given : leb v 2 ≡ false → given v f s at ≡ got o n → Said f s at o n
  unfolding given
  is_given h e =
      let i : next (f s at) (λ a m. got (some a) m) ≡ got o n = rw h at e in
      let a = split (f s at) _ i in
      record { value = a.value; reads = a.first ∙ ap (got a.value) (got_place a.rest); whole = sym (got_value a.rest) }

-- an operator is one byte
op_choice : (k : ℕ) (s : List ℕ) (at : ℕ) {o : ArithOp} {n : ℕ} → choose k arith_ops s at ≡ got o n → n ≡ at
unfolding choose arith_ops Each keys_up_to
op_choice k s at {o} {n} = by_kind s at 2 arith_ops refl (λ j. n ≡ at) (((tt, λ e. sym (got_place e)), λ e. sym (got_place e)), λ e. sym (got_place e)) k

op_byte : (s : List ℕ) (at : ℕ) {o : ArithOp} {n : ℕ} → arith_op s at ≡ got o n → n ≡ at + 1
unfolding arith_op
op_byte s at e =
    let a = split (u8 s at) _ e in
    op_choice a.value s a.place a.rest ∙ (u8_view s at a.first).2

pub op_place : (v : ℕ) (s : List ℕ) (at : ℕ) {o : Option ArithOp} {n : ℕ} → given v arith_op s at ≡ got o n → n ≡ at + op_length v
unfolding op_length
op_place v s at {o} {n} e = go (leb v 2) refl
  where
    go : (b : Bool) → leb v 2 ≡ b → n ≡ at + cond b 0 1
    go true h = let p = not_given v arith_op s at h e in omega arith
    go false h = op_byte s at (is_given v arith_op s at h e).reads

-- an entity: its name, and behind it its id
pub record EntityView (version : ℕ) (s : List ℕ) (at : ℕ) (x : Entity) (n : ℕ) : Type 0 where
  pub name : List ℕ
  pub middle : ℕ
  pub id : Option (List ℕ)
  pub reads : string_of path_name s at ≡ got name middle
  pub further : given version (string_of plain) s middle ≡ got id n
  pub whole : x ≡ record { name = name; id = id }

pub entity_parts : (version : ℕ) (s : List ℕ) (at : ℕ) {x : Entity} {n : ℕ} → entity_fields version s at ≡ got x n → EntityView version s at x n
unfolding entity_fields
entity_parts version s at e =
    let a = split (string_of path_name s at) _ e in
    let b = split (given version (string_of plain) s a.place) _ a.rest in
    record {
      name = a.value;
      middle = a.place;
      id = b.value;
      reads = a.first;
      further = b.first ∙ ap (got b.value) (got_place b.rest);
      whole = sym (got_value b.rest);
    }
