-- `targets::scope::narrowing_at` meets its contract. Assumes nothing.
use Rattle.targets.proofs.Accepted.{kinds, narrows, kind_type, kind_uid, kind_member}
use borrow.Author.Rules.{rules}
use Rattle.targets.proofs.scope.narrowing_at.Goals as goal

pub returns-in_default : goal.returns-in_default
returns-in_default c = search kinds

pub returns-in-0 : goal.returns-in-0
returns-in-0 c = search kinds

pub returns-in-1 : goal.returns-in-1
returns-in-1 c = search kinds

pub returns-in-2 : goal.returns-in-2
returns-in-2 c = narrows c.args.s.now _ _ (kind_type c.args.s.now c.args.at c.requires (search rules) (search rules))

pub returns-in-3 : goal.returns-in-3
returns-in-3 c =
    let uid = kind_uid c.args.s.now c.args.at c.requires (search rules) (search rules) in
    search (rules, narrows, uid)

pub returns-in_default-kind : goal.returns-in_default-kind
returns-in_default-kind c = narrows c.args.s.now _ _ (kind_member c.args.s.now c.args.at c.requires (search rules) (search rules) (search rules) (search rules) (search rules))
