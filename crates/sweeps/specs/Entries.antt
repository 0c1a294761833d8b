-- The entries of a listing: their bytes, and what a lent buffer keeps of them.
use Rattle.std.specs.Prelude.{ℕ, ◌*◌, ◌/◌, cond, List, ◌++◌, length, take, drop, leb}
use Rattle.names.specs.Lists.{gather}
use Rattle.names.specs.Fields.{digits}
use Rattle.reports.specs.Reports.{Outcome}

-- a window, by where its condition starts: whole sweeps of a period, and the seconds left
pub record Entry : Type 0 where
  pub start : ℕ
  pub sweeps : ℕ
  pub rest : ℕ

-- its 20 bytes
unfoldable pub encoded : Entry → List ℕ
encoded e = digits 4 e.start ++ digits 8 e.sweeps ++ digits 8 e.rest

-- how many entries a buffer has room for
abbrev pub room : List ℕ → ℕ
room buffer = length buffer / 20

-- the entries in a buffer: all, or 11 and those that fit; the bytes behind them are as they were
unfoldable pub listed : List Entry → List ℕ → Outcome
listed entries buffer =
    let kept : List Entry = take (room buffer) entries in
    record {
      answer =
          record {
            number = cond (leb (length entries) (room buffer)) 0 11;
            record_number = 0;
            count = length kept;
          };
      buffer = gather encoded kept ++ drop (length kept * 20) buffer;
    }
