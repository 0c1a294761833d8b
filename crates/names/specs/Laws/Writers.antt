-- Laws of writers. Assumes nothing.
--     stored-none, stored_more   nothing is written; one writer behind the other writes the two texts joined
--     stored-length              the buffer keeps its length
--     stored-text                what the first bytes are then
use Rattle.std.specs.Prelude.{◌≡◌, List, [], ◌++◌, ℕ, ◌+◌, ◌≤◌, length, take, drop}
use Rattle.std.proofs.Common.{sym, ap, ◌∙◌, append_assoc, append-nil, arith, add_assoc, add-zero, zero-add, length-append, length-take, length-drop, take-append-drop, take_at, drop_at, drop-drop}
use Rattle.std.proofs.Math.Seq.{take-append_seam}
use Rattle.names.specs.Writer.{store, Stored}

pub length_store : (s : List ℕ) (at : ℕ) (vs : List ℕ) → at + length vs ≤ length s → length (store s at vs) ≡ length s
unfolding store
length_store s at vs h = simp (length-append, length-take, length-drop) (omega arith)

-- two stores, the second right behind the first, are one
pub store_store : (s : List ℕ) (at : ℕ) (vs ws : List ℕ) → at + length vs + length ws ≤ length s
    → store (store s at vs) (at + length vs) ws ≡ store s at (vs ++ ws)
unfolding store
store_store s at vs ws h =
    let n = at + length vs in
    let p = take at s ++ vs in
    let q = drop n s in
    let lp : length p ≡ n = simp (length-append, length-take) (omega arith) in
    rw (take_at p q n lp, ← drop-drop (length ws) n (p ++ q), drop_at p q n lp, drop-drop, ← append_assoc, length-append, ← add_assoc)

pub stored_none : (s : List ℕ) (at : ℕ) → at ≤ length s → Stored s at [] s at
unfolding store
stored_none s at h = record {
  room = omega arith;
  next = sym (add-zero at);
  bytes = sym (ap (λ (k : ℕ). take at s ++ [] ++ drop k s) (add-zero at) ∙ rw append-nil (take-append-drop at s));
}

pub stored_length : {s s' vs : List ℕ} {at r : ℕ} → Stored s at vs s' r → length s' ≡ length s
stored_length {s} {s'} {vs} {at} p = rw p.bytes (length_store s at vs p.room)

-- one writer behind the other
pub stored_more : {s s' s'' vs ws : List ℕ} {at r r' : ℕ} → Stored s at vs s' r → Stored s' r ws s'' r' → Stored s at (vs ++ ws) s'' r'
stored_more {s} {s'} {s''} {vs} {ws} {at} {r} {r'} p q =
    let same = stored_length p in
    record {
      room = simp length-append (omega (arith, p.next, q.room));
      next = simp length-append (omega (arith, p.next, q.next));
      bytes = q.bytes ∙ rw (p.bytes, p.next) (store_store s at vs ws (omega (arith, p.next, q.room)));
    }

-- the text of a writer that began at the front
pub stored_text : {s vs s' : List ℕ} {r : ℕ} → Stored s 0 vs s' r → take r s' ≡ vs
unfolding store
stored_text {s} {vs} p = rw (p.bytes, p.next, zero-add) (take-append_seam vs (drop (length vs) s))
