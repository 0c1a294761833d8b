-- The loops over the texts of the types that a path has. Assumes nothing.
use mathlib.Core.Path.{◌≡◌, refl, sym, ap, ◌∙◌}
use mathlib.Core.Bool.{Bool, true, false, cond}
use mathlib.Core.List.{List, [], ◌∷◌}
use mathlib.Core.Option.{Option, none, some}
use Prim.Native.Nat.{ℕ, suc, ◌+◌, ◌≤◌, ◌<◌}
use native.Mathlib.Omega.{arith}
use borrow.Author.Rules.{rules}
use lib.ListN.{length}
use Rattle.names.specs.Lists.{maybe, gather, select}
use Rattle.names.specs.Names.{same, below}
use Rattle.names.specs.Writer.{Stored}
use Rattle.names.specs.Laws.Writers.{stored_length}
use Rattle.types.specs.Types.{Ty, render}
use Rattle.types.specs.Laws.Texts.{Small}
use Rattle.types.specs.Meaning.{rich_of}
use Rattle.types.specs.declared.Rich.{Rich}
use Rattle.schema.specs.Schema.{Schema}
use Rattle.resolution.specs.Paths.{path_of}
use Rattle.resolution.specs.Scopes.{schema_of, narrowing_of, types_of}
use Rattle.resolution.specs.Resolution.{insert, renderings, admitted_by}
use Rattle.resolution.specs.Places.{typed_of, small_type}
use Rattle.resolution.specs.Passes.{rendered, above, type_on, types_on, next_rendered}
use Rattle.resolution.specs.Laws.Listed.{all_behind}
use Rattle.lookup.specs.Lookup.{sized}
use Rattle.lookup.specs.Places.{rendered_of, Long, Room, Measures}
use Rattle.lookup.specs.declared.question.Question.{Question}
use Rattle.lookup.specs.declared.Measured.{Measured}
use Rattle.lookup.proofs.Listing.{length_select, types_few, Counting, count_none, count_over, count_room, count_more, Putting, put_none, put_over, put_room, put_more}
use Rattle.resolution.specs.Coded.{Typed}
use Rattle.std.specs.Prelude.{Some, None}

-- ---- how many texts there are

length_insert : (w : List ℕ) (ws : List (List ℕ)) → length (insert w ws) ≤ suc (length ws)
unfolding insert
length_insert w [] = omega arith
length_insert w (v ∷ ws) = go (same w v) (below w v) (length_insert w ws)
  where
    go : (a b : Bool) → length (insert w ws) ≤ suc (length ws) → length (cond a (v ∷ ws) (cond b (w ∷ (v ∷ ws)) (v ∷ insert w ws))) ≤ suc (suc (length ws))
    go true b h = omega arith
    go false true h = omega arith
    go false false h = omega arith

length_renderings : (ts : List Ty) → length (renderings ts) ≤ length ts
unfolding renderings
length_renderings [] = omega arith
length_renderings (t ∷ ts) = omega (arith, length_insert (render t) (renderings ts), length_renderings ts)

length_types : (S : Schema) (path names : List (List ℕ)) → length (types_on S path names) ≤ length names
unfolding types_on
length_types S path [] = omega arith
length_types S path (n ∷ names) = go (type_on S path n) (length_types S path names)
  where
    go : (o : Option Ty) → length (types_on S path names) ≤ length names → length (maybe (types_on S path names) (λ t. t ∷ types_on S path names) o) ≤ suc (length names)
    go none h = omega arith
    go (some t) h = omega arith

rendered_few : (q : Question) → length (rendered_of q) < 65536
rendered_few q =
    let s : List ℕ = q.candidates.scope.schema.bytes.now in
    let S = schema_of q.candidates.scope in
    let names : List (List ℕ) = types_of q.candidates in
    let path : List (List ℕ) = path_of q.path in
    let chosen : List (List ℕ) = select (admitted_by S (narrowing_of q.candidates.scope)) names in
    omega (arith, length_renderings (types_on S path chosen), length_types S path chosen, length_select (admitted_by S (narrowing_of q.candidates.scope)) names, types_few s q.candidates.types q.candidates.scope.schema.accepted q.candidates.stand)

-- ---- the loops

module _ (q : Question) where
  -- the bytes of its schema and of its path
  abbrev pub s : List ℕ
  s = q.candidates.scope.schema.bytes.now

  abbrev pub c : List ℕ
  c = q.path.bytes.now

  -- the texts behind the last one
  abbrev pub behind : Typed → List (List ℕ)
  behind last = select (above (rendered (typed_of s c last))) (rendered_of q)

  pub record CountingTypes (last : Typed) (m : Measured) : Type 0 where
    pub small : small_type (typed_of s c last)
    pub on : Counting (rendered_of q) (behind last) m

  pub record PuttingTypes (t : List ℕ) (at : ℕ) (last : Typed) (u : List ℕ) (place : ℕ) : Type 0 where
    pub small : small_type (typed_of s c last)
    pub on : Putting t at (rendered_of q) (behind last) u place
    pub same : length u ≡ length t

  module _ (last x : Typed) (next : next_rendered (rendered_of q) (typed_of s c x) ≡ behind last) where
    no_text : x ≡ None → behind last ≡ []
    no_text e = let h : [] ≡ behind last = rw e at next in sym h

    module _ (t : Rich) (e : x ≡ Some t) where
      one_text : behind last ≡ render (rich_of s c t) ∷ behind (Some t)
      one_text = let h : render (rich_of s c t) ∷ behind (Some t) ≡ behind last = rw e at next in sym h

      pub types_fewer : length (behind (Some t)) < length (behind last)
      types_fewer = omega (arith, ap length one_text)

      pub text_small : small_type (typed_of s c x) → Small (rich_of s c t)
      text_small h = rw e at h

  pub types_none : CountingTypes None (record { count = 0; size = 0 })
  types_none = record { small = omega arith; on = rw (all_behind (rendered_of q)) (count_none (rendered_of q) (record { count = 0; size = 0 }) refl) }

  module _ (last : Typed) (m : Measured) (inv : CountingTypes last m) (x : Typed) (next : next_rendered (rendered_of q) (typed_of s c x) ≡ behind last) where
    pub types_over : x ≡ None → Measures (rendered_of q) m
    types_over e = count_over (rendered_of q) (rendered_few q) (behind last) m inv.on (no_text last x next e)

    module _ (t : Rich) (e : x ≡ Some t) (long : ℕ) (l : Long (render (rich_of s c t)) long) where
      pub types_room : Room m long
      types_room = count_room (rendered_of q) (rendered_few q) (behind last) m inv.on (render (rich_of s c t)) (behind (Some t)) (one_text last x next t e) long l

      pub types_more : small_type (typed_of s c x) → (r : Measured) → r ≡ record { count = m.count + 1; size = m.size + (2 + long) } → CountingTypes (Some t) r
      types_more h r i = record {
        small = rw e at h;
        on = count_more (rendered_of q) (rendered_few q) (behind last) m inv.on (render (rich_of s c t)) (behind (Some t)) (one_text last x next t e) long l r i;
      }

  -- the same texts, written
  module _ (t : List ℕ) (at : ℕ) (room : at + length (gather sized (rendered_of q)) ≤ length t) where
    pub texts_start : PuttingTypes t at None t at
    texts_start = record { small = omega arith; on = rw (all_behind (rendered_of q)) (put_none t at (rendered_of q) (omega arith)); same = refl }

    module _ (last : Typed) (u : List ℕ) (place : ℕ) (inv : PuttingTypes t at last u place) (x : Typed) (next : next_rendered (rendered_of q) (typed_of s c x) ≡ behind last) where
      pub texts_over : x ≡ None → Stored t at (gather sized (rendered_of q)) u place
      texts_over e = put_over t at (rendered_of q) (behind last) u place inv.on (no_text last x next e)

      module _ (k : Rich) (e : x ≡ Some k) where
        pub texts_room : place + length (sized (render (rich_of s c k))) ≤ length u
        texts_room = put_room t at (rendered_of q) (behind last) u place inv.on (render (rich_of s c k)) (behind (Some k)) (one_text last x next k e) room

        pub texts_put : small_type (typed_of s c x) → (v : List ℕ) (r : ℕ) → Stored u place (sized (render (rich_of s c k))) v r → PuttingTypes t at (Some k) v r
        texts_put h v r i = record {
          small = rw e at h;
          on = put_more t at (rendered_of q) (behind last) u place inv.on (render (rich_of s c k)) (behind (Some k)) (one_text last x next k e) v r i;
          same = stored_length i ∙ inv.same;
        }

pub ruleset counts_types = (rules, types_none, types_over, text_small, types_room, types_more, types_fewer)

pub ruleset puts_types = (rules, texts_start, texts_over, text_small, texts_room, texts_put, types_fewer)
