-- An answer's strings by its case, and the output placed in a buffer. Assumes nothing.
use mathlib.Core.Path.{◌≡◌, refl, sym, ap, ◌∙◌}
use mathlib.Core.List.{List, [], ◌∷◌, append-nil}
use Prim.Native.Nat.{ℕ, ◌+◌, ◌≤◌, ◌<◌}
use native.Mathlib.Omega.{arith}
use borrow.Author.Rules.{rules}
use lib.ListN.{length, length-append}
use Rattle.names.specs.Lists.{gather}
use Rattle.names.specs.Fields.{digits}
use Rattle.names.specs.Laws.Fields.{length_digits}
use Rattle.names.specs.Read.{word_at}
use Rattle.names.specs.Writer.{Stored}
use Rattle.names.specs.Laws.Writers.{stored_none, stored_more, stored_length}
use Rattle.types.specs.Types.{render}
use Rattle.types.specs.Laws.Texts.{Small}
use Rattle.types.specs.Meaning.{rich_of}
use Rattle.types.specs.declared.Rich.{Rich}
use Rattle.reports.specs.Answers.{outcome_of, Refuses}
use Rattle.reports.specs.declared.Answer.{Answer}
use Rattle.resolution.specs.Paths.{path_of}
use Rattle.resolution.specs.Scopes.{schema_of, narrowing_of, types_of}
use Rattle.resolution.specs.Resolution as Resolution
use Rattle.resolution.specs.Resolution.{unknown}
use Rattle.resolution.specs.Places.{small_path}
use Rattle.resolution.specs.Passes.{scope_number, scope_of, briefly, listed, with_list}
use Rattle.resolution.specs.declared.ScopePath.{ScopePath}
use Rattle.resolution.specs.Laws.Listed.{with_its_list, missing_listed, ambiguous_listed}
use Rattle.reports.specs.Placed.{placed, Writes, placed-fits, placed_not}
use Rattle.lookup.specs.Lookup.{sized, block, output}
use Rattle.lookup.specs.Places.{answer_to, entities_of, rendered_of, strings_of, Long, Measures}
use Rattle.lookup.specs.declared.question.Question.{Question}
use Rattle.lookup.specs.declared.Measured.{Measured}
use Rattle.lookup.proofs.Parts.{length_sized}

-- ---- one string

one : (w : List ℕ) → gather sized (w ∷ []) ≡ sized w
unfolding gather
one w = append-nil (sized w)

measures_one : (w : List ℕ) (long : ℕ) → Long w long → (m : Measured) → m ≡ record { count = 1; size = 2 + long } → Measures (w ∷ []) m
measures_one w long l m e =
    rw e
    (record {
      count = refl;
      size = omega (arith, ap length (one w), length_sized w, l.is);
      few = omega arith;
      short = omega (arith, l.brief);
    })

-- ---- the strings of an answer, by its case

module _ (q : Question) (answer : ScopePath) where
  -- the bytes of its schema and of its path
  abbrev pub s : List ℕ
  s = q.candidates.scope.schema.bytes.now

  abbrev pub c : List ℕ
  c = q.path.bytes.now

  module _ (t : Rich) (e : answer ≡ ScopePath.Resolved t) where
    pub resolved_small : small_path (scope_of s c answer) → Small (rich_of s c t)
    resolved_small h = rw e at h

    pub resolved_measured : (long : ℕ) → Long (render (rich_of s c t)) long → (m : Measured) → m ≡ record { count = 1; size = 2 + long } → Measures (strings_of q answer) m
    resolved_measured long l m i = rw e (measures_one (render (rich_of s c t)) long l m i)

    module _ (b : List ℕ) (at : ℕ) where
      pub resolved_room : at + length (gather sized (strings_of q answer)) ≤ length b → at + length (sized (render (rich_of s c t))) ≤ length b
      resolved_room h = rw (e, one (render (rich_of s c t))) at h

      pub resolved_put : (d : List ℕ) (r : ℕ) → Stored b at (sized (render (rich_of s c t))) d r → Stored b at (gather sized (strings_of q answer)) d r
      resolved_put d r i = rw (e, one (render (rich_of s c t))) i

  module _ (p : ℕ) (e : answer ≡ ScopePath.Missing p) where
    pub missing_measured : (m : Measured) → Measures (word_at c p ∷ entities_of q p) m → Measures (strings_of q answer) m
    missing_measured m i = rw e i

    module _ (b : List ℕ) (at : ℕ) where
      pub missing_room : at + length (gather sized (strings_of q answer)) ≤ length b → at + length (gather sized (word_at c p ∷ entities_of q p)) ≤ length b
      missing_room h = rw e at h

      pub missing_put : (d : List ℕ) (r : ℕ) → Stored b at (gather sized (word_at c p ∷ entities_of q p)) d r → Stored b at (gather sized (strings_of q answer)) d r
      missing_put d r i = rw e i

  module _ (p : ℕ) (e : answer ≡ ScopePath.NonRecord p) where
    pub segment_measured : (long : ℕ) → Long (word_at c p) long → (m : Measured) → m ≡ record { count = 1; size = 2 + long } → Measures (strings_of q answer) m
    segment_measured long l m i = rw e (measures_one (word_at c p) long l m i)

    module _ (b : List ℕ) (at : ℕ) where
      pub segment_room : at + length (gather sized (strings_of q answer)) ≤ length b → at + length (sized (word_at c p)) ≤ length b
      segment_room h = rw (e, one (word_at c p)) at h

      pub segment_put : (d : List ℕ) (r : ℕ) → Stored b at (sized (word_at c p)) d r → Stored b at (gather sized (strings_of q answer)) d r
      segment_put d r i = rw (e, one (word_at c p)) i

  module _ (e : answer ≡ ScopePath.Ambiguous) where
    pub types_measured : (m : Measured) → Measures (rendered_of q) m → Measures (strings_of q answer) m
    types_measured m i = rw e i

    module _ (b : List ℕ) (at : ℕ) where
      pub types_room : at + length (gather sized (strings_of q answer)) ≤ length b → at + length (gather sized (rendered_of q)) ≤ length b
      types_room h = rw e at h

      pub types_put : (d : List ℕ) (r : ℕ) → Stored b at (gather sized (rendered_of q)) d r → Stored b at (gather sized (strings_of q answer)) d r
      types_put d r i = rw e i

  module _ (e : answer ≡ ScopePath.Unknown) where
    pub nothing_measured : Measures (strings_of q answer) (record { count = 0; size = 0 })
    unfolding gather
    nothing_measured = rw e (record { count = refl; size = refl; few = omega arith; short = omega arith })

    pub nothing_put : (b : List ℕ) (at : ℕ) → at + length (gather sized (strings_of q answer)) ≤ length b → Stored b at (gather sized (strings_of q answer)) b at
    unfolding gather
    nothing_put b at h = rw e (stored_none b at (omega arith))

pub ruleset measuring = (rules, resolved_small, resolved_measured, missing_measured, segment_measured, types_measured, nothing_measured)

pub ruleset putting = (rules, resolved_small, resolved_room, resolved_put, missing_room, missing_put, segment_room, segment_put, types_room, types_put, nothing_put)

-- ---- placed in a buffer

length_block : (status : ℕ) (ws : List (List ℕ)) → length (block status ws) ≡ 3 + length (gather sized ws)
unfolding block
length_block status ws = omega (arith, length-append (digits 2 (length ws)) (gather sized ws), length_digits 2 (length ws))

module _ (status : ℕ) (ws : List (List ℕ)) (b : List ℕ) (m : Measured) (is : Measures ws m) where
  pub place_not : length b < 3 + m.size → (a : Answer) → Refuses 11 0 a → outcome_of a b ≡ placed (block status ws) b
  place_not h a i = placed_not (block status ws) b (omega (arith, length_block status ws, is.size)) a i

  module _ (h : 3 + m.size ≤ length b) (k : ℕ) (is_k : k ≡ status) (t : List ℕ) (at : ℕ) (start : Stored b 0 (k ∷ digits 2 m.count) t at) where
    pub place_room : at + length (gather sized ws) ≤ length t
    place_room = omega (arith, start.next, length_digits 2 m.count, is.size, stored_length start)

    pub place_whole : (u : List ℕ) (r : ℕ) → Stored t at (gather sized ws) u r → (a : Answer) → Writes r a → outcome_of a u ≡ placed (block status ws) b
    unfolding block
    place_whole u r rest a w =
        let e : k ∷ digits 2 m.count ≡ status ∷ digits 2 (length ws) = rw (is_k, is.count) in
        placed-fits (block status ws) b u r (stored_more (rw e at start) rest) a w

pub ruleset placing = (rules, place_not, place_room, place_whole)

pub unknown_not : (b : List ℕ) → length b < 3 → (a : Answer) → Refuses 11 0 a → outcome_of a b ≡ placed (output unknown) b
unfolding output block gather digits
unknown_not b h a i = placed_not (output unknown) b h a i

pub unknown_placed : (b t : List ℕ) (r : ℕ) → Stored b 0 (4 ∷ digits 2 0) t r → (a : Answer) → Writes r a → outcome_of a t ≡ placed (output unknown) b
unfolding output block gather digits
unknown_placed b t r i a w = placed-fits (output unknown) b t r i a w

pub ruleset unknowns = (rules, unknown_not, unknown_placed)

-- ---- the answer to a question

module _ (q : Question) where
  output_of : (answer : ScopePath) → scope_of q.candidates.scope.schema.bytes.now q.path.bytes.now answer ≡ briefly (answer_to q) → output (answer_to q) ≡ block (scope_number answer) (strings_of q answer)
  unfolding output with_list
  output_of answer e =
      let o : Resolution.ScopePath = answer_to q in
      let i : output o ≡ output (with_list (scope_of q.candidates.scope.schema.bytes.now q.path.bytes.now answer) (listed o)) = rw (e, with_its_list o) in
      i ∙ go answer (listed o) e
    where
      go : (a : ScopePath) (ws : List (List ℕ)) → scope_of q.candidates.scope.schema.bytes.now q.path.bytes.now a ≡ briefly (answer_to q) → output (with_list (scope_of q.candidates.scope.schema.bytes.now q.path.bytes.now a) (listed (answer_to q))) ≡ block (scope_number a) (strings_of q a)
      go (ScopePath.Resolved t) ws h = refl
      go (ScopePath.Missing p) ws h = rw (missing_listed (schema_of q.candidates.scope) (narrowing_of q.candidates.scope) (types_of q.candidates) (path_of q.path) (word_at q.path.bytes.now p) [] (sym h))
      go (ScopePath.NonRecord p) ws h = refl
      go ScopePath.Ambiguous ws h = rw (ambiguous_listed (schema_of q.candidates.scope) (narrowing_of q.candidates.scope) (types_of q.candidates) (path_of q.path) [] (sym h))
      go ScopePath.Unknown ws h = refl

  pub path_placed : (answer : ScopePath) → scope_of q.candidates.scope.schema.bytes.now q.path.bytes.now answer ≡ briefly (answer_to q) → (b t : List ℕ) (a : Answer) → outcome_of a t ≡ placed (block (scope_number answer) (strings_of q answer)) b → outcome_of a t ≡ placed (output (answer_to q)) b
  path_placed answer e b t a i = i ∙ ap (λ (o : List ℕ). placed o b) (sym (output_of answer e))

pub ruleset paths = (rules, path_placed)
