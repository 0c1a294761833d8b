-- `names::fields::read_u8` meets its contract: one byte is there where the next place is not behind the end. Assumes nothing.
use Rattle.std.proofs.Common.{rules, ◌≡◌, ◌∙◌, refl, ap, arith, ◌+◌, length, get_or, take, drop, ℕ, Bool, true, false, leb, ltb, List}
use Prim.Native.Nat.{suc}
use Rattle.names.specs.Fields.{bytes, u8, holds}
use Rattle.names.specs.Read.{ending, Read}
use Rattle.names.specs.declared.refusal.Refusal.TheVariants.{Cut}
use Rattle.names.proofs.fields.read_u8.Goals as goal

-- where a reader ends does not hang on what it gives
same_end : {A B : Type 0} (there : Bool) (a : A) (b : B) (s : List ℕ) (n : ℕ) → ending (holds Cut there a s n) ≡ ending (holds Cut there b s n)
unfolding ending
same_end true a b s n = refl
same_end false a b s n = refl

is_there : (at n : ℕ) → leb (at + 1) n ≡ ltb at n
is_there at n =
    let e : at + 1 ≡ suc at = omega arith in
    ap (λ (m : ℕ). leb m n) e

byte_read : (s : List ℕ) (at : ℕ) (x : Read) → x ≡ ending (bytes 1 s at) → x ≡ ending (u8 s at)
unfolding bytes u8
byte_read s at x e =
    e
    ∙ ap (λ (b : Bool). ending (holds Cut b (take 1 (drop at s)) s (at + 1))) (is_there at (length s))
    ∙ same_end (ltb at (length s)) (take 1 (drop at s)) (get_or s at 0) s (at + 1)

pub returns : goal.returns
returns c = search (rules, byte_read)
