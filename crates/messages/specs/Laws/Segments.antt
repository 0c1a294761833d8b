-- The segments of an annotation, joined, written and measured. Assumes nothing.
use Rattle.std.specs.Prelude.{◌≡◌, true, ℕ, zero, suc, ◌+◌, ◌*◌, ◌-◌, ◌≤◌, ◌<◌, get_or, drop, Ok, Err}
use Rattle.std.proofs.Math.Path.{refl, sym, ap}
use Rattle.std.proofs.Common.{◌∙◌, arith, sub-one, rules, length-drop, length-take-le}
use mathlib.Core.List.{List, [], ◌∷◌, ◌++◌, append_assoc, append-nil}
use Rattle.std.proofs.Math.ListN.{length, length-append}
use Rattle.names.specs.declared.Class.TheVariants.{Identifier}
use Rattle.names.specs.Class.{class_of}
use Rattle.names.specs.Names.{identifier, joined}
use Rattle.names.specs.Fields.{got, string_of, many, counted, each}
use Rattle.names.specs.Read.{ending, word_at, row, is_row, row_in, Listed, Read}
use Rattle.names.specs.Writer.{Stored}
use Rattle.names.specs.Laws.Writers.{stored_none, stored_more, stored_length}
use Rattle.names.specs.Laws.Readers.{Accepted, accept, arrives, not_refused, string_view, has_value, got_place}
use Rattle.names.specs.Laws.Rows.{opens, row_empty, counted_view, Remaining, remaining_all, remaining_over, strings_left, StringsLeft, listed_length}
use Rattle.nodes.specs.Parts.{segments_in, SegmentsHere}
use Rattle.nodes.specs.Laws.Pieces.{segments_index, segments_some, segments_listed}
use Rattle.reports.specs.Pairs.{sum_of}
use Rattle.messages.specs.Joined.{behind, Sized}
use Rattle.names.specs.declared.refusal.Refusal.{Refusal}

-- `::` and a segment
pub colons_more : {s s' s'' w : List ℕ} {at r r' : ℕ} → Stored s at (58 ∷ 58 ∷ []) s' r → Stored s' r w s'' r' → Stored s at (58 ∷ 58 ∷ w) s'' r'
colons_more p q = stored_more p q

pub ruleset texts = (rules, colons_more)

-- ---- segments

joined_behind : (w : List ℕ) (ws : List (List ℕ)) → joined (w ∷ ws) ≡ w ++ behind ws
unfolding joined behind
joined_behind w [] = sym (append-nil w)
joined_behind w (v ∷ ws) = rw (joined_behind v ws)

behind_length : (ws : List (List ℕ)) → length (behind ws) ≡ sum_of length ws + 2 * length ws
unfolding behind
behind_length [] = refl
behind_length (w ∷ ws) = simp length-append (omega (arith, behind_length ws))

-- the strings of a row stand one behind the other, each behind its length byte
word_length : (s : List ℕ) (at : ℕ) → at + 1 + get_or s at 0 ≤ length s → length (word_at s at) ≡ get_or s at 0
word_length s at h = length-take-le (get_or s at 0) (drop (at + 1) s) (rw length-drop (omega arith))

record Extent (s : List ℕ) (n at : ℕ) (ws : List (List ℕ)) (end : ℕ) : Type 0 where
  is : end ≡ at + n + sum_of length ws
  inside : 0 < n → end ≤ length s

row_extent : (s : List ℕ) (n at : ℕ) {ws : List (List ℕ)} {end : ℕ} → row (string_of identifier) n s at ≡ got ws end → Extent s n at ws end
unfolding many
row_extent s zero at {ws} {end} e =
    let none = row_empty (string_of identifier) s 0 at (omega arith) e in
    let place = got_place e in
    record { is = rw none (omega arith); inside = λ h. absurd (omega arith) }
row_extent s (suc n) at {ws} {end} e =
    let o = opens (string_of identifier) s (suc n) at (omega arith) e in
    let v = string_view identifier s at o.here in
    let r = row_extent s n o.p (rw sub-one at o.rest) in
    let long : length o.own ≡ get_or s at 0 = ap length v.word ∙ word_length s at (rw (← v.place) v.inside) in
    record {
      is = rw o.all (omega (arith, r.is, v.place));
      inside = λ h. go o.p o.others n v.inside r.inside r.is (λ z. row_empty (string_of identifier) s n o.p z (rw sub-one at o.rest));
    }
  where
    go : (p : ℕ) (others : List (List ℕ)) (m : ℕ) → p ≤ length s → (0 < m → end ≤ length s) → end ≡ p + m + sum_of length others → (m ≤ 0 → others ≡ []) → end ≤ length s
    go p others zero h i j k = omega (arith, ap (sum_of length) (k (omega arith)))
    go p others (suc m) h i j k = i (omega arith)

-- So many segments, each behind `::`: what was written, and what is left of them, make the whole.
pub record Behind (s old : List ℕ) (start : ℕ) (whole new : List ℕ) (next at rest : ℕ) : Type 0 where
  pub done : List ℕ
  pub written : Stored old start done new next
  pub left : Remaining (string_of identifier) s (λ ws. done ++ behind ws) whole rest at

module _ (s : List ℕ) (start : ℕ) where
  pub behind_begins : (old : List ℕ) (n at : ℕ) → is_row (string_of identifier) s n at ≡ true → start + length (behind (row_in (string_of identifier) s n at)) ≤ length old
      → Behind s old start (behind (row_in (string_of identifier) s n at)) old start at n
  behind_begins old n at is room = record {
    done = [];
    written = stored_none old start (omega arith);
    left = remaining_all (string_of identifier) s behind n at is;
  }

  module _ (old whole new : List ℕ) (next at rest : ℕ) (b : Behind s old start whole new next at rest) where
    pub behind_over : rest ≤ 0 → Stored old start whole new next
    unfolding behind
    behind_over h =
        let e : b.done ≡ whole = sym (append-nil b.done) ∙ remaining_over (string_of identifier) s (λ ws. b.done ++ behind ws) whole rest at h b.left in
        rw (← e) b.written

    module _ (h : 0 < rest) where
      pub segment_inside : at + 1 + get_or s at 0 ≤ length s
      segment_inside = (strings_left identifier s (λ ws. b.done ++ behind ws) whole rest at h b.left).inside

      module _ (w : List ℕ) (is : w ≡ word_at s at) where
        pub segment_room : start + length whole ≤ length old → next + (2 + length w) ≤ length new
        unfolding behind
        segment_room room =
            let l = strings_left identifier s (λ ws. b.done ++ behind ws) whole rest at h b.left in
            let same : b.done ++ behind (w ∷ l.others) ≡ whole = rw is l.same in
            let parts : length (b.done ++ behind (w ∷ l.others)) ≡ length b.done + (2 + length w + length (behind l.others)) = simp length-append (omega arith) in
            omega (arith, room, ap length same, parts, b.written.next, stored_length b.written)

        pub behind_turn : (new' : List ℕ) (next' : ℕ) → Stored new next (58 ∷ 58 ∷ w) new' next' → (m : ℕ) → m ≡ at + 1 + get_or s at 0 → Behind s old start whole new' next' m (rest - 1)
        unfolding behind
        behind_turn new' next' p m e =
            let l = strings_left identifier s (λ ws. b.done ++ behind ws) whole rest at h b.left in
            let same : b.done ++ behind (w ∷ l.others) ≡ whole = rw is l.same in
            record {
              done = b.done ++ (58 ∷ 58 ∷ w);
              written = stored_more b.written p;
              left = record {
                left = l.others;
                there = rw e l.there;
                same = append_assoc b.done (58 ∷ 58 ∷ w) (behind l.others) ∙ same;
              };
            }

pub ruleset segments = (rules, behind_begins, behind_over, segment_inside, segment_room, behind_turn)

-- The segments of an annotation: the first, and the others behind it; n is their number.
module _ (s : List ℕ) (at : ℕ) (h : SegmentsHere s at) (n : ℕ) (e : n ≡ get_or s at 0) where
  first_segment : StringsLeft identifier s (λ ws. ws) (segments_in s at) n (at + 1)
  first_segment = strings_left identifier s (λ ws. ws) (segments_in s at) n (at + 1) (omega (arith, h.some)) (record { left = segments_in s at; there = segments_listed s at h n e; same = refl })

  pub first_inside : at + 1 + 1 + get_or s (at + 1) 0 ≤ length s
  first_inside = first_segment.inside

  module _ (w : List ℕ) (is : w ≡ word_at s (at + 1)) where
    joined_parts : joined (segments_in s at) ≡ w ++ behind first_segment.others
    joined_parts = ap joined (sym first_segment.same) ∙ joined_behind (word_at s (at + 1)) first_segment.others ∙ ap (λ (v : List ℕ). v ++ behind first_segment.others) (sym is)

    joined_length : length (joined (segments_in s at)) ≡ length w + length (behind first_segment.others)
    joined_length = ap length joined_parts ∙ length-append w (behind first_segment.others)

    pub first_room : (out : List ℕ) (p : ℕ) → p + length (joined (segments_in s at)) ≤ length out → p + length w ≤ length out
    first_room out p room = omega (arith, joined_length)

    module _ (out out' : List ℕ) (p next : ℕ) (stored : Stored out p w out' next) (m : ℕ) (j : m ≡ at + 1 + 1 + get_or s (at + 1) 0) where
      others_here : Listed (string_of identifier) s first_segment.others (n - 1) m
      others_here = rw j first_segment.there

      pub others_stand : is_row (string_of identifier) s (n - 1) m ≡ true
      others_stand = others_here.stands

      pub others_room : p + length (joined (segments_in s at)) ≤ length out → next + length (behind (row_in (string_of identifier) s (n - 1) m)) ≤ length out'
      others_room room = rw others_here.value (omega (arith, joined_length, stored.next, stored_length stored))

      pub others_done : (out'' : List ℕ) (r : ℕ) → Stored out' next (behind (row_in (string_of identifier) s (n - 1) m)) out'' r → Stored out p (joined (segments_in s at)) out'' r
      others_done out'' r q = rw joined_parts (stored_more stored (rw others_here.value at q))

  -- measured by the places before the first and behind the last
  module _ (x : Read) (i : x ≡ ending (counted (each (string_of (class_of Identifier))) s at)) where
    segments_read : Accepted (counted (each (string_of identifier)) s at)
    segments_read = accept _ h.stands

    pub size_refused : (r : Refusal) → x ≡ Err r → Sized (joined (segments_in s at)) 0
    size_refused r j = absurd (not_refused segments_read.read i j)

    module _ (end : ℕ) (j : x ≡ Ok end) where
      extent : Extent s n (at + 1) (segments_in s at) end
      unfolding segments_in
      extent =
          let place = arrives segments_read.read i j in
          rw (e, place, has_value [] segments_read.read) (row_extent s (get_or s at 0) (at + 1) (counted_view (string_of identifier) s at segments_read.read).read)

      pub size_behind : at + 1 + n ≤ end
      size_behind = omega (arith, extent.is)

      pub size_inside : length s ≤ 32768 → end ≤ 32768
      size_inside small = omega (arith, extent.inside (omega (arith, h.some)))

      pub size_is : length s ≤ 32768 → n < 256 → (r : ℕ) → r + 2 + (at + 1) ≡ end + n → Sized (joined (segments_in s at)) r
      size_is small few r k =
          let w = first_segment in
          let l : length (joined (segments_in s at)) ≡ length (word_at s (at + 1)) + (sum_of length w.others + 2 * length w.others) =
          joined_length (word_at s (at + 1)) refl ∙ ap (λ (m : ℕ). length (word_at s (at + 1)) + m) (behind_length w.others) in
          let total : sum_of length (segments_in s at) ≡ length (word_at s (at + 1)) + sum_of length w.others = ap (sum_of length) (sym w.same) in
          let many = listed_length (string_of identifier) s w.others (n - 1) (at + 1 + 1 + get_or s (at + 1) 0) w.there in
          record {
            is = omega (arith, l, total, many, extent.is, h.some);
            most = omega (arith, extent.inside (omega (arith, h.some)));
          }

  -- so much at the most, whoever measures
  pub joined_most : length s ≤ 32768 → n < 256 → length (joined (segments_in s at)) ≤ 33023
  unfolding ending
  joined_most small few =
      let a = accept _ h.stands in
      let ends : ending (counted (each (string_of identifier)) s at) ≡ Ok a.place = ap ending a.read in
      let after : at + 1 + n ≤ a.place = size_behind _ refl a.place ends in
      let some : 0 < n = omega (arith, h.some) in
      let k = size_is _ refl a.place ends small few (a.place + n - (at + 3)) (omega arith) in
      omega (arith, k.is, k.most)

pub ruleset joining = (rules, segments_index, first_inside, first_room, others_stand, others_room, others_done)

pub ruleset measuring = (rules, segments_index, size_refused, size_behind, size_inside, size_is, segments_some)
