use Rattle.std.proofs.Common.{◌≡◌, ◌-◌, ◌*◌, ◌/◌, length, drop}
use Rattle.reports.specs.Slots.{mixed_words, hashed_message}
use Rattle.reports.proofs.slots.hash_message.Given as goal

-- the words that are left, mixed into the two numbers, and the bytes behind them make the whole
abbrev pub invariant-loop-word : goal.invariant-loop-word
invariant-loop-word l = mixed_words l.by (length l.message / 8 - l.word-index) l.one l.two (drop (8 * l.word-index) l.message) ≡ hashed_message l.by l.message
