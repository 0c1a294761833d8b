use Rattle.std.proofs.Common.{rules, ℕ, ◌<◌, get_or}
use Rattle.names.specs.Laws.Words.{word_of_library}
use Rattle.names.proofs.bytewise.word_at.Goals as goal

pub returns : goal.returns
returns c =
    let small : (i : ℕ) → get_or c.args.s.now i 0 < 256 = λ i. (c.type_inv.s i).fits in
    search (rules, word_of_library, small)
