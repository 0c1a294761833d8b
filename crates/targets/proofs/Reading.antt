-- Each exit and each turn of the two records' readers. Assumes nothing.
use mathlib.Core.Path.{◌≡◌, refl, ◌∙◌}
use mathlib.Core.List.{List, [], ◌∷◌}
use Prim.Native.Nat.{ℕ, ◌+◌, ◌≤◌, ◌<◌}
use native.Mathlib.Omega.{arith}
use borrow.Author.Rules.{rules}
use lib.ListN.{length, get_or}
use Rattle.names.specs.Fields.{u8, string_of, each, counted, heading, finished, whole, choose}
use Rattle.names.specs.Names.{path_name, path_or_none, plain}
use Rattle.names.specs.Paths.{path_of}
use Rattle.names.specs.Read.{ending, Read}
use Rattle.names.specs.Laws.Readers.{u8-end, u8_got, via, last, stops, goes, Each, each_below, keys_up_to, choose_beyond}
use Rattle.names.specs.Laws.Records.{start_stops, start_goes, at-end}
use Rattle.names.specs.Laws.Rows.{counted-end, counted_start, each_done, each_stops, each_turn}
use Rattle.targets.specs.Targets.{narrowings, narrowing, target, target_record}
use Rattle.targets.specs.PathRecord.{sides, scope_side, path_record}
use Rattle.targets.specs.Appending.{alone_target}
use Rattle.std.specs.Prelude.{Ok, Err}
use Rattle.names.specs.declared.refusal.Refusal.{Refusal}
use Rattle.names.specs.declared.refusal.Refusal.TheVariants.{Cut, UndefinedChoice}

-- A narrowing, by its first byte.
module _ (s : List ℕ) (at : ℕ) where
  pub narrowing-end : length s ≤ at → Err Cut ≡ ending (narrowing s at)
  unfolding narrowing ending
  narrowing-end h = rw (u8-end s at h)

  module _ (h : at < length s) where
    pub narrowing_kind : (k : ℕ) → get_or s at 0 ≡ k → narrowing s at ≡ choose k narrowings s (at + 1)
    unfolding narrowing
    narrowing_kind k e = rw (← e, u8_got s at h)

    pub narrowing_undefined : 4 < get_or s at 0 → Err UndefinedChoice ≡ ending (narrowing s at)
    unfolding keys_up_to narrowings ending
    narrowing_undefined l = via (narrowing_kind _ refl) (rw (choose_beyond s (at + 1) 4 (get_or s at 0) l narrowings refl))

    pub narrowing_bare : get_or s at 0 < 2 → Ok (at + 1) ≡ ending (narrowing s at)
    unfolding choose narrowings ending Each
    narrowing_bare l = via (narrowing_kind _ refl) (each_below (λ k. Ok (at + 1) ≡ ending (choose k narrowings s (at + 1))) 2 ((tt, refl), refl) _ l)

    pub narrowing_typed : get_or s at 0 ≤ 4 → 2 ≤ get_or s at 0 → (x : Read) → x ≡ ending (string_of path_name s (at + 1)) → x ≡ ending (narrowing s at)
    unfolding choose narrowings Each
    narrowing_typed l m x is =
        via (narrowing_kind _ refl)
        (each_below (λ k. 2 ≤ k → x ≡ ending (choose k narrowings s (at + 1))) 5
        (((((tt, λ m. absurd (omega arith)), λ m. absurd (omega arith)), λ m. is ∙ last _ _), λ m. is ∙ last _ _), λ m. is ∙ last _ _)
        _ (omega arith) m)

-- A target.
module _ (s : List ℕ) (at : ℕ) (x : Read) (is : x ≡ ending (string_of path_or_none s at)) where
  pub target_unplaced : (r : Refusal) → x ≡ Err r → Err r ≡ ending (target s at)
  unfolding target
  target_unplaced r e = stops _ _ e is

  pub target_read : (n : ℕ) → x ≡ Ok n → (y : Read) → y ≡ ending (string_of plain s n) → y ≡ ending (target s at)
  unfolding target
  target_read n e y is' = goes _ _ e is λ ns d. is' ∙ last _ _

-- A target by itself.
module _ (s : List ℕ) (x : Read) (is : x ≡ ending (target s 0)) where
  pub alone_unread : (r : Refusal) → x ≡ Err r → Err r ≡ ending (alone_target s 0)
  unfolding alone_target
  alone_unread r e = stops _ _ e is

  pub alone_read : (end : ℕ) → x ≡ Ok end → (y : Read) → y ≡ ending (finished end s end) → y ≡ ending (alone_target s 0)
  unfolding alone_target
  alone_read end e y i = goes _ _ e is λ _ _. at-end _ s end y i

-- The target record.
module _ (s : List ℕ) (x : Read) (is_x : x ≡ ending (whole (heading (68 ∷ 87 ∷ 84 ∷ []) 1) s)) where
  pub targets_unmarked : (r : Refusal) → x ≡ Err r → Err r ≡ ending (whole target_record s)
  unfolding target_record
  targets_unmarked r e = start_stops _ _ s _ x is_x r e

  module _ (p : ℕ) (e : x ≡ Ok p) (y : Read) (is_y : y ≡ ending (narrowing s p)) where
    pub targets_principal : (r : Refusal) → y ≡ Err r → Err r ≡ ending (whole target_record s)
    unfolding target_record
    targets_principal r f = start_goes _ _ s _ x is_x p e λ _ _. stops _ _ f is_y

    module _ (q : ℕ) (f : y ≡ Ok q) (z : Read) (is_z : z ≡ ending (narrowing s q)) where
      pub targets_resource : (r : Refusal) → z ≡ Err r → Err r ≡ ending (whole target_record s)
      unfolding target_record
      targets_resource r g = start_goes _ _ s _ x is_x p e λ _ _. goes _ _ f is_y λ _ _. stops _ _ g is_z

      module _ (n : ℕ) (g : z ≡ Ok n) (w : Read) (is_w : w ≡ ending (counted (each target) s n)) where
        pub targets_unlisted : (r : Refusal) → w ≡ Err r → Err r ≡ ending (whole target_record s)
        unfolding target_record
        targets_unlisted r i = start_goes _ _ s _ x is_x p e λ _ _. goes _ _ f is_y λ _ _. goes _ _ g is_z λ _ _. stops _ _ i is_w

        pub targets_read : (end : ℕ) → w ≡ Ok end → (v : Read) → v ≡ ending (finished end s end) → v ≡ ending (whole target_record s)
        unfolding target_record
        targets_read end i v l = start_goes _ _ s _ x is_x p e λ _ _. goes _ _ f is_y λ _ _. goes _ _ g is_z λ _ _. goes _ _ i is_w λ _ _. at-end _ s end v l

-- A side.
module _ (s : List ℕ) (at : ℕ) where
  pub side-end : length s ≤ at → Err Cut ≡ ending (scope_side s at)
  unfolding scope_side ending
  side-end h = rw (u8-end s at h)

  module _ (h : at < length s) where
    pub side_kind : (k : ℕ) → get_or s at 0 ≡ k → scope_side s at ≡ choose k sides s (at + 1)
    unfolding scope_side
    side_kind k e = rw (← e, u8_got s at h)

    pub side_undefined : 1 < get_or s at 0 → Err UndefinedChoice ≡ ending (scope_side s at)
    unfolding keys_up_to sides ending
    side_undefined l = via (side_kind _ refl) (rw (choose_beyond s (at + 1) 1 (get_or s at 0) l sides refl))

    pub side_read : get_or s at 0 ≤ 1 → Ok (at + 1) ≡ ending (scope_side s at)
    unfolding choose sides ending Each
    side_read l = via (side_kind _ refl) (each_below (λ k. Ok (at + 1) ≡ ending (choose k sides s (at + 1))) 2 ((tt, refl), refl) (get_or s at 0) (omega arith))

-- The path record.
module _ (s : List ℕ) (x : Read) (is_x : x ≡ ending (whole (heading (68 ∷ 87 ∷ 80 ∷ []) 1) s)) where
  pub path_unmarked : (r : Refusal) → x ≡ Err r → Err r ≡ ending (whole path_record s)
  unfolding path_record
  path_unmarked r e = start_stops _ _ s _ x is_x r e

  module _ (p : ℕ) (e : x ≡ Ok p) (y : Read) (is_y : y ≡ ending (scope_side s p)) where
    pub path_sideless : (r : Refusal) → y ≡ Err r → Err r ≡ ending (whole path_record s)
    unfolding path_record
    path_sideless r f = start_goes _ _ s _ x is_x p e λ _ _. stops _ _ f is_y

    module _ (n : ℕ) (f : y ≡ Ok n) (z : Read) (is_z : z ≡ ending (path_of s n)) where
      pub path_segments : (r : Refusal) → z ≡ Err r → Err r ≡ ending (whole path_record s)
      unfolding path_record
      path_segments r g = start_goes _ _ s _ x is_x p e λ _ _. goes _ _ f is_y λ _ _. stops _ _ g is_z

      module _ (m : ℕ) (g : z ≡ Ok m) (w : Read) (is_w : w ≡ ending (u8 s m)) where
        pub path_unpositioned : (r : Refusal) → w ≡ Err r → Err r ≡ ending (whole path_record s)
        unfolding path_record
        path_unpositioned r i = start_goes _ _ s _ x is_x p e λ _ _. goes _ _ f is_y λ _ _. goes _ _ g is_z λ _ _. stops _ _ i is_w

        pub path_read : (end : ℕ) → w ≡ Ok end → (v : Read) → v ≡ ending (finished end s end) → v ≡ ending (whole path_record s)
        unfolding path_record
        path_read end i v l = start_goes _ _ s _ x is_x p e λ _ _. goes _ _ f is_y λ _ _. goes _ _ g is_z λ _ _. goes _ _ i is_w λ _ _. at-end _ s end v l

pub ruleset narrowing_read = (rules, narrowing-end, narrowing_undefined, narrowing_bare, narrowing_typed)

pub ruleset target_rows = (rules, target_unplaced, target_read, counted-end, counted_start, each_done, each_stops, each_turn)

pub ruleset target_alone = (rules, alone_unread, alone_read)

pub ruleset targets_whole = (rules, targets_unmarked, targets_principal, targets_resource, targets_unlisted, targets_read)

pub ruleset side_whole = (rules, side-end, side_undefined, side_read)

pub ruleset path_whole = (rules, path_unmarked, path_sideless, path_segments, path_unpositioned, path_read)
