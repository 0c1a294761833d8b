-- The leaves of an operand, and of a row of one term. Assumes nothing.
--     leaf-itself              what is no Arith is its own leaf
--     leaves-gather            what an Arith has of its left, then of its right, its leaves have one after the other
--     one-term, one-leaves     a term by itself is a row of one, and has its leaves
--     leaf-next ..             what a walk over the leaves learns of the next one
use Rattle.std.specs.Prelude.{◌≡◌, refl, true, ℕ, ◌<◌, length, Some}
use Rattle.std.proofs.Math.Path.{sym, ap, ap₂}
use Rattle.std.proofs.Common.{◌∙◌, arith}
use mathlib.Core.List.{List, [], ◌∷◌, ◌++◌, append-nil}
use Rattle.std.proofs.Math.Option.{Option}
use Rattle.names.specs.Lists.{gather}
use Rattle.names.specs.Laws.Lists.{gather_append}
use Rattle.names.specs.Fields.{many}
use Rattle.names.specs.Laws.Readers.{is_accepted, has_value}
use Rattle.names.specs.Laws.Rows.{row_cons}
use Rattle.condition.specs.Condition.{Term, ArithOp, entity, literal, context_field, scope_field, var, wildcard, array, aggregate, sigil}
use Rattle.condition.specs.Condition as tree
use Rattle.condition.specs.Places.{term_here, is_term, term_in}
use Rattle.nodes.specs.Kinds.{term_kind_of}
use Rattle.nodes.specs.declared.Several.{Several}
use Rattle.nodes.specs.Parts.{is_terms, operand_leaves, leaves_in, LeafNext, NextLeafIs, NextPart}
use Rattle.nodes.specs.Laws.Opens.{term_stands}

pub leaf_itself : (x : Term) → (term_kind_of x ≡ 12 → ⊥) → operand_leaves x ≡ x ∷ []
unfolding operand_leaves
leaf_itself (entity n) a = refl
leaf_itself (literal l) a = refl
leaf_itself (context_field p) a = refl
leaf_itself (scope_field p) a = refl
leaf_itself (var v) a = refl
leaf_itself wildcard a = refl
leaf_itself (array ts) a = refl
leaf_itself (aggregate x) a = refl
leaf_itself (tree.arith op l r) a = absurd (a refl)
leaf_itself sigil a = refl

module _ {A : Type 0} (g : Term → List A) (splits : (op : Option ArithOp) (l r : Term) → g (tree.arith op l r) ≡ g l ++ g r) where
  pub leaves_gather : (x : Term) → gather g (operand_leaves x) ≡ g x
  unfolding gather operand_leaves
  leaves_gather (entity n) = append-nil (g (entity n))
  leaves_gather (literal l) = append-nil (g (literal l))
  leaves_gather (context_field p) = append-nil (g (context_field p))
  leaves_gather (scope_field p) = append-nil (g (scope_field p))
  leaves_gather (var v) = append-nil (g (var v))
  leaves_gather wildcard = append-nil (g wildcard)
  leaves_gather (array ts) = append-nil (g (array ts))
  leaves_gather (aggregate a) = append-nil (g (aggregate a))
  leaves_gather (tree.arith op l r) = gather_append g (operand_leaves l) (operand_leaves r) ∙ ap₂ ◌++◌ (leaves_gather l) (leaves_gather r) ∙ sym (splits op l r)
  leaves_gather sigil = append-nil (g sigil)

module _ (s : List ℕ) (at : ℕ) (acc : is_term s at ≡ true) where
  pub one_term : is_terms s 1 at ≡ true
  unfolding many
  one_term = is_accepted (row_cons term_here s 0 at (term_stands s at acc).read refl)

  pub one_leaves : leaves_in s 1 at ≡ operand_leaves (term_in s at)
  unfolding leaves_in gather many
  one_leaves = ap (gather operand_leaves) (has_value [] (row_cons term_here s 0 at (term_stands s at acc).read refl)) ∙ append-nil (operand_leaves (term_in s at))

-- the next leaf, as the code learns it
module _ (s : List ℕ) (left : Several) (x : NextPart) (is : NextLeafIs s (leaves_in s left.count left.first) x) (p : ℕ) (rest : Several) (e : x ≡ Some (p, rest)) where
  pub leaf_next : LeafNext s (leaves_in s left.count left.first) p rest
  leaf_next = rw e at is

  pub leaf_stands : is_term s p ≡ true
  leaf_stands = leaf_next.stands

  pub leaf_plain : term_kind_of (term_in s p) ≡ 12 → ⊥
  leaf_plain = leaf_next.leaf

  pub fewer_leaves : length (leaves_in s rest.count rest.first) < length (leaves_in s left.count left.first)
  fewer_leaves = rw leaf_next.value (omega arith)
