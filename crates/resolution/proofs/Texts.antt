-- Texts in order, each once: what is put into them, and the next one behind another. Assumes nothing.
use mathlib.Core.Path.{◌≡◌, refl, sym, ap, ◌∙◌}
use mathlib.Core.Bool.{Bool, true, false, cond, ◌&&◌, false≢true}
use mathlib.Core.List.{List, [], ◌∷◌}
use mathlib.Core.Option.{Option, none, some}
use Prim.Native.Nat.{ℕ}
use native.Mathlib.Omega.{arith}
use Rattle.names.specs.Lists.{maybe, first, every, select}
use Rattle.names.specs.Names.{same, below, order}
use Rattle.names.specs.Laws.Names.{and_left, and_right, same_eq, below_order, order_refl, order_flip, below_trans}
use Rattle.types.specs.Types.{Ty, render}
use Rattle.schema.specs.Schema.{Schema}
use Rattle.resolution.specs.Resolution.{insert, renderings}
use Rattle.resolution.specs.Passes.{rendered, above, closest, type_on, types_on, next_rendered}

-- The order of texts.
module _ (x y : List ℕ) where
  below_asym : below x y ≡ true → below y x ≡ false
  unfolding order
  below_asym h =
      let i : order x y ≡ 0 = rw h in
      below_order y x ∙ rw (order_flip x y, i)

  below_total : below x y ≡ false → same x y ≡ false → below y x ≡ true
  unfolding order
  below_total h k =
      let i : order x y ≡ 2 = rw (h, k) in
      below_order y x ∙ rw (order_flip x y, i)

below_irrefl : (x : List ℕ) → below x x ≡ false
below_irrefl x = below_order x x ∙ rw order_refl

not_below_trans : (x y z : List ℕ) → below x y ≡ false → below y z ≡ false → below x z ≡ false
not_below_trans x y z h k = go (same x y) refl (below x z) refl
  where
    go : (b : Bool) → same x y ≡ b → (d : Bool) → below x z ≡ d → below x z ≡ false
    go true i d j = rw (same_eq x y i) k
    go false i true j = absurd (false≢true (sym k ∙ below_trans y x z (below_total x y h i) j))
    go false i false j = j

above_trans : (last : Option (List ℕ)) (v w : List ℕ) → above last v ≡ true → below v w ≡ true → above last w ≡ true
above_trans none v w h k = refl
above_trans (some u) v w h k = below_trans u v w h k

-- Lists and tests.
module _ {A : Type 0} (p q : A → Bool) where
  select_all : (xs : List A) → every p xs ≡ true → select p xs ≡ xs
  unfolding every select
  select_all [] h = refl
  select_all (x ∷ xs) h = rw (and_left (p x) (every p xs) h, select_all xs (and_right (p x) (every p xs) h))

  every_weaker : ((a : A) → p a ≡ true → q a ≡ true) → (xs : List A) → every p xs ≡ true → every q xs ≡ true
  unfolding every
  every_weaker weaker [] h = refl
  every_weaker weaker (x ∷ xs) h = rw (weaker x (and_left (p x) (every p xs) h), every_weaker weaker xs (and_right (p x) (every p xs) h))

  first_passes : (xs : List A) (a : A) → first p xs ≡ some a → every q xs ≡ true → q a ≡ true
  unfolding first every
  first_passes [] a e h = let z : ◌≡◌ {A = ℕ} 0 1 = cc in absurd (omega arith)
  first_passes (x ∷ xs) a e h = go (p x) e (λ i. first_passes xs a i (and_right (q x) (every q xs) h))
    where
      go : (b : Bool) → cond b (some x) (first p xs) ≡ some a → (first p xs ≡ some a → q a ≡ true) → q a ≡ true
      go true i rest = let j : x ≡ a = cc in rw (← j) (and_left (q x) (every q xs) h)
      go false i rest = rest i

-- Texts that ascend.
unfoldable ascends : List (List ℕ) → Bool
ascends [] = true
ascends (w ∷ ws) = every (below w) ws && ascends ws

every_insert : (v w : List ℕ) → below v w ≡ true → (ws : List (List ℕ)) → every (below v) ws ≡ true → every (below v) (insert w ws) ≡ true
unfolding every insert
every_insert v w h [] k = rw h
every_insert v w h (u ∷ ws) k = go (same w u) (below w u) (every_insert v w h ws (and_right (below v u) (every (below v) ws) k))
  where
    go : (a b : Bool) → every (below v) (insert w ws) ≡ true → every (below v) (cond a (u ∷ ws) (cond b (w ∷ (u ∷ ws)) (u ∷ insert w ws))) ≡ true
    go true b rest = k
    go false true rest = rw (h, k)
    go false false rest = rw (and_left (below v u) (every (below v) ws) k, rest)

insert_ascends : (w : List ℕ) (ws : List (List ℕ)) → ascends ws ≡ true → ascends (insert w ws) ≡ true
unfolding ascends insert every
insert_ascends w [] h = refl
insert_ascends w (v ∷ ws) h = go (same w v) refl (below w v) refl (insert_ascends w ws (and_right (every (below v) ws) (ascends ws) h))
  where
    go : (a : Bool) → same w v ≡ a → (b : Bool) → below w v ≡ b → ascends (insert w ws) ≡ true → ascends (cond a (v ∷ ws) (cond b (w ∷ (v ∷ ws)) (v ∷ insert w ws))) ≡ true
    go true i b j rest = h
    go false i true j rest = rw (j, every_weaker (below v) (below w) (λ u k. below_trans w v u j k) ws (and_left (every (below v) ws) (ascends ws) h), h)
    go false i false j rest = rw (every_insert v w (below_total w v j i) ws (and_left (every (below v) ws) (ascends ws) h), rest)

renderings_ascend : (ts : List Ty) → ascends (renderings ts) ≡ true
unfolding renderings ascends
renderings_ascend [] = refl
renderings_ascend (t ∷ ts) = insert_ascends (render t) (renderings ts) (renderings_ascend ts)

-- the next text behind the last one, and those behind it
next_behind : (last : Option (List ℕ)) (ws : List (List ℕ)) → ascends ws ≡ true → (o : Option (List ℕ)) → first (above last) ws ≡ o → maybe [] (λ w. w ∷ select (below w) ws) o ≡ select (above last) ws
unfolding first select ascends
next_behind last [] h o e = rw (← e)
next_behind last (v ∷ ws) h o e = go (above last v) refl e (next_behind last ws (and_right (every (below v) ws) (ascends ws) h) o)
  where
    all : every (below v) ws ≡ true
    all = and_left (every (below v) ws) (ascends ws) h

    past : (o : Option (List ℕ)) → first (above last) ws ≡ o → maybe [] (λ w. w ∷ select (below w) ws) o ≡ select (above last) ws → maybe [] (λ w. w ∷ cond (below w v) (v ∷ select (below w) ws) (select (below w) ws)) o ≡ select (above last) ws
    past none i rest = rest
    past (some w) i rest = rw (below_asym v w (first_passes (above last) (below v) ws w i all)) rest

    go : (b : Bool) → above last v ≡ b → cond b (some v) (first (above last) ws) ≡ o → (first (above last) ws ≡ o → maybe [] (λ w. w ∷ select (below w) ws) o ≡ select (above last) ws) → maybe [] (λ w. w ∷ cond (below w v) (v ∷ select (below w) ws) (select (below w) ws)) o ≡ cond b (v ∷ select (above last) ws) (select (above last) ws)
    go true i j rest =
        rw (← j, below_irrefl v, select_all (below v) (below v) ws all)
        (rw (select_all (above last) (below v) ws (every_weaker (below v) (above last) (λ u k. above_trans last v u i k) ws all)))
    go false i j rest = past o j (rest j)

-- the lesser of a text and what may be another
abbrev lesser : List ℕ → Option (List ℕ) → Option (List ℕ)
lesser w o = maybe (some w) (λ v. cond (below v w) (some v) (some w)) o

abbrev lesser_of : Option (List ℕ) → Option (List ℕ) → Option (List ℕ)
lesser_of b o = maybe o (λ w. lesser w o) b

first_insert : (last : Option (List ℕ)) (w : List ℕ) (ws : List (List ℕ)) → first (above last) (insert w ws) ≡ cond (above last w) (lesser w (first (above last) ws)) (first (above last) ws)
unfolding first insert
first_insert last w [] = refl
first_insert last w (v ∷ ws) = go (same w v) refl (below w v) refl (above last w) refl (above last v) refl (first_insert last w ws)
  where
    go :
        (a : Bool) → same w v ≡ a → (b : Bool) → below w v ≡ b → (p : Bool) → above last w ≡ p → (q : Bool) → above last v ≡ q
        → first (above last) (insert w ws) ≡ cond (above last w) (lesser w (first (above last) ws)) (first (above last) ws)
        → first (above last) (cond a (v ∷ ws) (cond b (w ∷ (v ∷ ws)) (v ∷ insert w ws))) ≡ cond p (lesser w (cond q (some v) (first (above last) ws))) (cond q (some v) (first (above last) ws))
    go true i b j true k true l rest = rw (l, ← same_eq w v i, below_irrefl w)
    go true i b j true k false l rest = absurd (false≢true (sym l ∙ ap (above last) (sym (same_eq w v i)) ∙ k))
    go true i b j false k true l rest = rw l
    go true i b j false k false l rest = rw l
    go false i true j true k true l rest = rw (k, below_asym w v j)
    go false i true j true k false l rest = absurd (false≢true (sym l ∙ above_trans last w v k j))
    go false i true j false k true l rest = rw (k, l)
    go false i true j false k false l rest = rw (k, l)
    go false i false j true k true l rest = rw (l, below_total w v j i)
    go false i false j true k false l rest = rw (l, rest, k)
    go false i false j false k true l rest = absurd (false≢true (sym k ∙ above_trans last v w l (below_total w v j i)))
    go false i false j false k false l rest = rw (l, rest, k)

lesser_down : (w b : List ℕ) → below w b ≡ true → (o : Option (List ℕ)) → lesser w o ≡ lesser b (lesser w o)
lesser_down w b h none = rw h
lesser_down w b h (some g) = go (below g w) refl
  where
    go : (d : Bool) → below g w ≡ d → cond d (some g) (some w) ≡ lesser b (cond d (some g) (some w))
    go true i = rw (below_trans g w b i h)
    go false i = rw h

lesser_stays : (w b : List ℕ) → below w b ≡ false → (o : Option (List ℕ)) → lesser b o ≡ lesser b (lesser w o)
lesser_stays w b h none = rw h
lesser_stays w b h (some g) = go (below g w) refl
  where
    go : (d : Bool) → below g w ≡ d → cond (below g b) (some g) (some b) ≡ lesser b (cond d (some g) (some w))
    go true i = refl
    go false i = rw (h, not_below_trans g w b i h)

closest_text : (last : Option (List ℕ)) (best : Option Ty) (t : Ty) (o : Option (List ℕ)) → lesser_of (rendered (closest last best (some t))) o ≡ lesser_of (rendered best) (cond (above last (render t)) (lesser (render t) o) o)
unfolding closest
closest_text last none t o = go (above last (render t))
  where
    go : (a : Bool) → lesser_of (rendered (cond (a && true) (some t) none)) o ≡ cond a (lesser (render t) o) o
    go true = refl
    go false = refl
closest_text last (some u) t o = go (above last (render t)) (below (render t) (render u)) refl
  where
    go : (a b : Bool) → below (render t) (render u) ≡ b → lesser_of (rendered (cond (a && b) (some t) (some u))) o ≡ lesser (render u) (cond a (lesser (render t) o) o)
    go true true i = lesser_down (render t) (render u) i o
    go true false i = lesser_stays (render t) (render u) i o
    go false b i = refl

-- A pass over names picks the type whose text is the next.
module _ (S : Schema) (path : List (List ℕ)) (last : Option (List ℕ)) where
  unfoldable pub picked : Option Ty → List (List ℕ) → Option Ty
  picked best [] = best
  picked best (name ∷ names) = picked (closest last best (type_on S path name)) names

  picked_text : (best : Option Ty) (names : List (List ℕ)) → rendered (picked best names) ≡ lesser_of (rendered best) (first (above last) (renderings (types_on S path names)))
  unfolding picked types_on renderings first closest
  picked_text none [] = refl
  picked_text (some u) [] = refl
  picked_text best (name ∷ names) = go (type_on S path name) (λ b. picked_text b names)
    where
      go : (o : Option Ty) → ((b : Option Ty) → rendered (picked b names) ≡ lesser_of (rendered b) (first (above last) (renderings (types_on S path names)))) → rendered (picked (closest last best o) names) ≡ lesser_of (rendered best) (first (above last) (renderings (maybe (types_on S path names) (λ t. t ∷ types_on S path names) o)))
      go none rest = rest best
      go (some t) rest =
          rest (closest last best (some t))
          ∙ closest_text last best t (first (above last) (renderings (types_on S path names)))
          ∙ ap (lesser_of (rendered best)) (sym (first_insert last (render t) (renderings (types_on S path names))))

  of_rendered : (words : List (List ℕ)) (o : Option Ty) → maybe [] (λ w. w ∷ select (below w) words) (rendered o) ≡ next_rendered words o
  of_rendered words none = refl
  of_rendered words (some t) = refl

  pub picked_next : (names : List (List ℕ)) → next_rendered (renderings (types_on S path names)) (picked none names) ≡ select (above last) (renderings (types_on S path names))
  picked_next names =
      sym (of_rendered (renderings (types_on S path names)) (picked none names))
      ∙ next_behind last (renderings (types_on S path names)) (renderings_ascend (types_on S path names)) (rendered (picked none names)) (sym (picked_text none names))
