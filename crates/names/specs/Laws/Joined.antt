-- A path name is identifiers joined by `::`, and nothing else is (`joined_path`, `path_joined`);
-- the simple name is an end of the name (`simple-end`) in which no `::` stands (`simple_no_colons`). Assumes nothing.
use Rattle.std.specs.Prelude.{◌≡◌, refl, List, [], ◌∷◌, ◌++◌, Bool, true, false, cond, ◌&&◌, ◌||◌, ℕ, eqb}
use Rattle.std.proofs.Common.{sym, ap, ◌∙◌, append-nil, append_assoc, eqb-true}
use Rattle.std.proofs.Math.Bool.{and-eq-true_iff}
use Rattle.std.proofs.lemmas.Bool.{false≢true}
use Rattle.names.specs.Lists.{every}
use Rattle.names.specs.Names.{letter, letter_or_digit, identifier, path_name, path_tail, second_colon, joined, simple_from, simple_name}

-- ---- what is joined is a path name

tail-end : (v : List ℕ) → every letter_or_digit v ≡ true → path_tail v ≡ true
unfolding every path_tail
tail-end [] e = refl
tail-end (b ∷ v) e =
    let both = (and-eq-true_iff (letter_or_digit b) (every letter_or_digit v)).0 e in
    rw (both.0, tail-end v both.1)

tail_more : (v t : List ℕ) → every letter_or_digit v ≡ true → path_name t ≡ true → path_tail (v ++ 58 ∷ 58 ∷ t) ≡ true
unfolding every path_tail second_colon letter_or_digit letter
tail_more [] t e p = p
tail_more (b ∷ v) t e p =
    let both = (and-eq-true_iff (letter_or_digit b) (every letter_or_digit v)).0 e in
    rw (both.0, tail_more v t both.1 p)

word_path : (w : List ℕ) → identifier w ≡ true → path_name w ≡ true
unfolding identifier path_name
word_path [] e = absurd (false≢true e)
word_path (b ∷ v) e =
    let both = (and-eq-true_iff (letter b) (every letter_or_digit v)).0 e in
    rw both.0 (tail-end v both.1)

word_more : (w t : List ℕ) → identifier w ≡ true → path_name t ≡ true → path_name (w ++ 58 ∷ 58 ∷ t) ≡ true
unfolding identifier path_name
word_more [] t e p = absurd (false≢true e)
word_more (b ∷ v) t e p =
    let both = (and-eq-true_iff (letter b) (every letter_or_digit v)).0 e in
    rw both.0 (tail_more v t both.1 p)

pub joined_path : (ws : List (List ℕ)) (w : List ℕ) → every identifier (w ∷ ws) ≡ true → path_name (joined (w ∷ ws)) ≡ true
unfolding every joined
joined_path [] w e = word_path w ((and-eq-true_iff (identifier w) true).0 e).0
joined_path (v ∷ ws) w e =
    let both = (and-eq-true_iff (identifier w) (every identifier (v ∷ ws))).0 e in
    word_more w (joined (v ∷ ws)) both.0 (joined_path ws v both.1)

-- ---- a path name is joined

pub record Parts (s : List ℕ) : Type 0 where
  pub head : List ℕ
  pub others : List (List ℕ)
  pub identifiers : every identifier (head ∷ others) ≡ true
  pub joins : joined (head ∷ others) ≡ s

every_snoc : (v : List ℕ) (b : ℕ) → every letter_or_digit v ≡ true → letter_or_digit b ≡ true → every letter_or_digit (v ++ b ∷ []) ≡ true
unfolding every
every_snoc [] b h e = rw e
every_snoc (c ∷ v) b h e =
    let both = (and-eq-true_iff (letter_or_digit c) (every letter_or_digit v)).0 h in
    rw both.0 (every_snoc v b both.1 e)

identifier_snoc : (p : List ℕ) (b : ℕ) → identifier p ≡ true → letter_or_digit b ≡ true → identifier (p ++ b ∷ []) ≡ true
unfolding identifier
identifier_snoc [] b i e = absurd (false≢true i)
identifier_snoc (c ∷ v) b i e =
    let both = (and-eq-true_iff (letter c) (every letter_or_digit v)).0 i in
    rw both.0 (every_snoc v b both.1 e)

one_part : (p : List ℕ) → identifier p ≡ true → Parts p
unfolding every joined
one_part p i = record { head = p; others = []; identifiers = rw i; joins = refl }

more_parts : (p : List ℕ) {t : List ℕ} → identifier p ≡ true → Parts t → Parts (p ++ 58 ∷ 58 ∷ t)
unfolding every joined
more_parts p {t} i q =
    record { head = p; others = q.head ∷ q.others; identifiers = rw i q.identifiers; joins = ap (λ (r : List ℕ). p ++ 58 ∷ 58 ∷ r) q.joins }

-- one byte inside an identifier: one more of it, or the first of two colons
step : (p : List ℕ) (b : ℕ) (t : List ℕ) → (letter_or_digit b ≡ true → path_tail t ≡ true → Parts ((p ++ b ∷ []) ++ t)) → (second_colon t ≡ true → Parts (p ++ 58 ∷ t)) → path_tail (b ∷ t) ≡ true → Parts (p ++ b ∷ t)
unfolding path_tail
step p b t word colon e = go (letter_or_digit b && path_tail t) refl e
  where
    go : (q : Bool) → (letter_or_digit b && path_tail t) ≡ q → (q || (eqb b 58 && second_colon t)) ≡ true → Parts (p ++ b ∷ t)
    go true q i =
        let both = (and-eq-true_iff (letter_or_digit b) (path_tail t)).0 q in
        rw append_assoc at (word both.0 both.1)
    go false q i =
        let both = (and-eq-true_iff (eqb b 58) (second_colon t)).0 i in
        rw (eqb-true b 58 both.0) (colon both.1)

inside : (s p : List ℕ) → identifier p ≡ true → path_tail s ≡ true → Parts (p ++ s)
unfolding path_tail second_colon path_name identifier every
inside [] p i e = rw append-nil (one_part p i)
inside (b ∷ []) p i e = step p b [] (λ w f. inside [] (p ++ b ∷ []) (identifier_snoc p b i w) f) (λ f. absurd (false≢true f)) e
inside (b ∷ c ∷ []) p i e =
    step p b (c ∷ []) (λ w f. inside (c ∷ []) (p ++ b ∷ []) (identifier_snoc p b i w) f)
    (λ f. absurd (false≢true ((and-eq-true_iff (eqb c 58) false).0 f).1)) e
inside (b ∷ c ∷ d ∷ s) p i e =
    step p b (c ∷ d ∷ s) (λ w f. inside (c ∷ d ∷ s) (p ++ b ∷ []) (identifier_snoc p b i w) f)
    (λ f.
    let both = (and-eq-true_iff (eqb c 58) (letter d && path_tail s)).0 f in
    let next = (and-eq-true_iff (letter d) (path_tail s)).0 both.1 in
    rw (eqb-true c 58 both.0) (more_parts p i (inside s (d ∷ []) (rw next.0) next.1))) e

pub path_joined : (s : List ℕ) → path_name s ≡ true → Parts s
unfolding path_name identifier every
path_joined [] e = absurd (false≢true e)
path_joined (b ∷ s) e =
    let both = (and-eq-true_iff (letter b) (path_tail s)).0 e in
    inside s (b ∷ []) (rw both.0) both.1

-- ---- the simple name

-- `::` stands somewhere
unfoldable pub has_colons : List ℕ → Bool
has_colons [] = false
has_colons (b ∷ []) = false
has_colons (b ∷ (c ∷ w)) = (eqb b 58 && eqb c 58) || has_colons (c ∷ w)

-- r is an end of w
pub record EndOf (w r : List ℕ) : Type 0 where
  pub front : List ℕ
  pub joins : front ++ r ≡ w

shorter : {w : List ℕ} (b : ℕ) (r : List ℕ) → EndOf w (b ∷ r) → EndOf w r
shorter b r e = record { front = e.front ++ b ∷ []; joins = append_assoc e.front (b ∷ []) r ∙ e.joins }

from_end : (w whole s : List ℕ) → EndOf w whole → EndOf w s → EndOf w (simple_from whole s)
unfolding simple_from
from_end w whole [] h e = h
from_end w whole (b ∷ []) h e = h
from_end w whole (b ∷ (c ∷ t)) h e = from_end w (cond (eqb b 58 && eqb c 58) t whole) (c ∷ t) (go (eqb b 58 && eqb c 58)) (shorter b (c ∷ t) e)
  where
    go : (q : Bool) → EndOf w (cond q t whole)
    go true = shorter c t (shorter b (c ∷ t) e)
    go false = h

pub simple-end : (w : List ℕ) → EndOf w (simple_name w)
unfolding simple_name
simple-end w = from_end w w w (record { front = []; joins = refl }) (record { front = []; joins = refl })

no_more : (c : ℕ) (t : List ℕ) → has_colons (c ∷ t) ≡ false → has_colons t ≡ false
unfolding has_colons
no_more c [] e = refl
no_more c (d ∷ t) e = go (eqb c 58 && eqb d 58) e
  where
    go : (q : Bool) → (q || has_colons (d ∷ t)) ≡ false → has_colons (d ∷ t) ≡ false
    go true i = absurd (false≢true (sym i))
    go false i = i

from_no_colons : (whole s : List ℕ) → (has_colons s ≡ false → has_colons whole ≡ false) → has_colons (simple_from whole s) ≡ false
unfolding simple_from has_colons
from_no_colons whole [] h = h refl
from_no_colons whole (b ∷ []) h = h refl
from_no_colons whole (b ∷ (c ∷ t)) h = from_no_colons (cond (eqb b 58 && eqb c 58) t whole) (c ∷ t) (go (eqb b 58 && eqb c 58) h)
  where
    go : (q : Bool) → ((q || has_colons (c ∷ t)) ≡ false → has_colons whole ≡ false) → has_colons (c ∷ t) ≡ false → has_colons (cond q t whole) ≡ false
    go true k i = no_more c t i
    go false k i = k i

pub simple_no_colons : (w : List ℕ) → has_colons (simple_name w) ≡ false
unfolding simple_name
simple_no_colons w = from_no_colons w w (λ e. e)
