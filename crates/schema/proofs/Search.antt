-- A search along a row of things that are read alike wherever they stand in it: over, found, and on. Assumes nothing.
use mathlib.Core.Path.{◌≡◌, refl, ap, ◌∙◌}
use mathlib.Core.Bool.{Bool, true, false}
use mathlib.Core.List.{List}
use mathlib.Core.Option.{Option, none, some}
use Prim.Native.Nat.{ℕ, ◌-◌, ◌≤◌, ◌<◌}
use Rattle.names.specs.Fields.{got, Reader}
use Rattle.names.specs.Read.{ending, accepted, value_or, Found}
use Rattle.names.specs.Laws.Readers.{Keeps, is_accepted, has_value, arrives, RowLeft, RowFirst, row_first, row_over}
use Rattle.schema.specs.Places.{Answers}
use Rattle.std.specs.Prelude.{Ok, Some, None}

module _ {A K : Type 0} (key : A → K) (f : Option K → Reader A) (test : A → Bool) (other : A) (s : List ℕ) (o : Option A) where
  -- a position stands for what is read there as the first of a row
  abbrev pub Search : Found → Type 0
  Search = Answers (λ at. accepted (f none s at)) (λ at. value_or other (f none s at)) o

  pub search_over : (n at : ℕ) → n ≤ 0 → RowLeft key f test s o n at → Search None
  search_over n at h l = record { value = row_over _ _ _ s o n at h l; stands = refl }

  -- what is accepted after another is accepted as the first too
  module _ (free : (before : Option K) (at : ℕ) → Keeps (f before s at) (f none s at)) (n at : ℕ) (h : 0 < n) (l : RowLeft key f test s o n at) where
    head : RowFirst key f test s o n at
    head = row_first _ _ _ s o n at h l

    here : f none s at ≡ got head.own head.p
    here = free head.before at head.own head.p head.here

    pub search_stands : accepted (f none s at) ≡ true
    search_stands = is_accepted here

    -- the code's test is the search's
    module _ (b : Bool) (is_b : (a : A) (m : ℕ) → f none s at ≡ got a m → test a ≡ b) where
      tested : test head.own ≡ b
      tested = is_b head.own head.p here

      pub search_found : b ≡ true → Search (Some at)
      search_found e = record { value = ap some (has_value other here) ∙ rw (tested ∙ e) at head.answer; stands = is_accepted here }

      pub search_on : b ≡ false → (m : ℕ) → Ok m ≡ ending (f none s at) → RowLeft key f test s o (n - 1) m
      search_on e m g =
          record { before = some (key head.own); things = head.others; place = head.place; read = rw (arrives here g refl) head.rest; answer = rw (tested ∙ e) at head.answer }
