-- A table of the reports by a number made of their start and message, so that a repeat is found without asking all of them.
-- The first entry of a lent table is a key, which the caller may choose, and the slots are the entries behind it. The number is made with the key, so that
-- whoever writes a request without knowing it does not know which reports share a slot. What is reported does not depend on it.
-- A slot is 0 where it is free, else one more than the place of a report in the buffer. A report stands in the first slot that was free when it came, from
-- its own first slot on and from the last slot to the first one again. (Of reports with one pair, which only a buffer that was handed back can hold, the first does.)
-- Every function that reports a (message, start) once says: `requires` Lent (sink (now buf) state) (now table), and `ensures` Pushed of its breaches.
use Rattle.std.specs.Prelude.{Option, None, Some, ◌≡◌, Bool, true, false, cond, ◌&&◌, List, [], ◌∷◌, ◌++◌, ℕ, zero, suc, ◌+◌, ◌-◌, ◌*◌, ◌/◌, ◌%◌, ◌≤◌, ◌<◌, length, get_or, take, drop, ltb, eqb}
use Rattle.names.specs.Fields.{number}
use Rattle.names.specs.Lists.{any_of}
use Rattle.reports.specs.declared.State.{State}
use Rattle.reports.specs.Reports.{Breach, same_pair}
use Rattle.reports.specs.Decode.{size}
use Rattle.reports.specs.Sink.{Sink, sink, held, push, Sound, Recorded}

-- the two parts of a table
abbrev pub key_of : List ℕ → ℕ
key_of table = get_or table 0 0

abbrev pub slots_of : List ℕ → List ℕ
slots_of table = drop 1 table

-- what a key makes the numbers be multiplied by: it is odd, whatever the key is
abbrev pub multiplier : ℕ → ℕ
multiplier key = (key * 2 + 2654435761) % 4294967296

-- The middle of a product of two numbers of 32 bits. Its low bits would not do: they are those of the factors' low bits alone, and since the square of an
-- odd number is 1 modulo 8, names whose letters differ in case at the right places would share a number under every key.
abbrev pub middle : ℕ → ℕ → ℕ
middle a b = a * b / 65536 % 4294967296

-- A number made of a message's bytes: the table asks nothing of it but that it is a function. Of each eight bytes the first four are mixed into one number
-- and the others into another, so that neither waits for the other; then both are mixed into one, in this order, and the bytes that are left after them.
abbrev pub mixed : ℕ → ℕ → ℕ → ℕ
mixed by h n = middle ((h + n) % 4294967296) by

unfoldable pub mixed_bytes : ℕ → ℕ → List ℕ → ℕ
mixed_bytes by h [] = h
mixed_bytes by h (b ∷ bs) = mixed_bytes by (mixed by h b) bs

abbrev pub joined : ℕ → ℕ → ℕ → ℕ
joined by one two = mixed by (mixed by 0 one) two

unfoldable pub mixed_words : ℕ → ℕ → ℕ → ℕ → List ℕ → ℕ
mixed_words by zero one two s = mixed_bytes by (joined by one two) s
mixed_words by (suc n) one two s = mixed_words by n (mixed by one (number 0 (take 4 s))) (mixed by two (number 0 (take 4 (drop 4 s)))) (drop 8 s)

unfoldable pub hashed_message : ℕ → List ℕ → ℕ
hashed_message by message = mixed_words by (length message / 8) 0 0 message

-- the number of a pair, squared at the end, so that the distance of two starts says nothing of that of their slots
abbrev pub squared : ℕ → ℕ
squared n = middle n n

unfoldable pub hashed : ℕ → ℕ → List ℕ → ℕ
hashed key start message = squared (mixed (multiplier key) (hashed_message (multiplier key) message) start)

-- the one of m slots in which the search for a pair begins, and the one that is k behind it
abbrev pub first_slot : ℕ → ℕ → Breach → ℕ
first_slot key m b = hashed key b.start b.message % m

abbrev pub slot_at : ℕ → ℕ → ℕ → ℕ
slot_at m first k = cond (ltb (first + k) m) (first + k) (first + k - m)

-- the search from a first slot on meets this entry: no slot before it is free
pub record Met (slots : List ℕ) (first entry : ℕ) : Type 0 where
  pub steps : ℕ
  pub within : steps < length slots
  pub here : get_or slots (slot_at (length slots) first steps) 0 ≡ entry
  pub passed : (k : ℕ) → k < steps → 0 < get_or slots (slot_at (length slots) first k) 0

-- how many slots are taken
unfoldable pub taken : List ℕ → ℕ
taken [] = 0
taken (e ∷ es) = cond (eqb e 0) (taken es) (suc (taken es))

-- an entry is that of one of the reports
pub record EntryOf (bs : List Breach) (entry : ℕ) : Type 0 where
  pub before : List Breach
  pub here : Breach
  pub after : List Breach
  pub split : bs ≡ before ++ (here ∷ after)
  pub place : entry ≡ size before + 1

-- the search for a pair meets the entry of a report that has it
pub record Meets (key : ℕ) (bs : List Breach) (slots : List ℕ) (b : Breach) : Type 0 where
  pub entry : ℕ
  pub met : Met slots (first_slot key (length slots) b) entry
  pub entry_of : EntryOf bs entry
  pub same : same_pair b entry_of.here ≡ true

-- the slots have the pairs of these reports, each where the search for it comes under the key, and nothing else
pub record Tabled (key : ℕ) (bs : List Breach) (slots : List ℕ) : Type 0 where
  pub number : taken slots ≤ length bs
  pub entries : (j : ℕ) → 0 < get_or slots j 0 → EntryOf bs (get_or slots j 0)
  pub met : (b : Breach) → any_of (same_pair b) bs ≡ true → Meets key bs slots b

-- how many reports m slots take, so that a search passes few
abbrev pub room : ℕ → ℕ
room m = m - m / 4

-- the reports of a buffer are in the table, as long as they are no more than it takes, and their places fit a slot
pub record Filed (s : Sink) (table : List ℕ) : Type 0 where
  pub tabled : length (held s) ≤ room (length (slots_of table)) → length s.bytes < 4294967295 → Tabled (key_of table) (held s) (slots_of table)

-- whether one more is put into it
abbrev pub is_open : Sink → List ℕ → Bool
is_open s table = ltb s.state.count (room (length (slots_of table))) && ltb (length s.bytes) 4294967295

-- a slot for a pair that none of the reports has: the first free one of its search
pub record FreeFor (key : ℕ) (bs : List Breach) (slots : List ℕ) (b : Breach) (j : ℕ) : Type 0 where
  pub new : any_of (same_pair b) bs ≡ false
  pub steps : ℕ
  pub within : steps < length slots
  pub is : j ≡ slot_at (length slots) (first_slot key (length slots) b) steps
  pub free : get_or slots j 0 ≡ 0
  pub passed : (k : ℕ) → k < steps → 0 < get_or slots (slot_at (length slots) (first_slot key (length slots) b) k) 0

-- what the search for a pair says
abbrev pub Finds : ℕ → List Breach → List ℕ → Breach → Option ℕ → Type 0
Finds key bs slots b None = any_of (same_pair b) bs ≡ true
Finds key bs slots b (Some j) = FreeFor key bs slots b j

-- a slot of the table of a buffer is free for a pair that none of its reports is
pub record FreeIn (s : List ℕ) (st : State) (table : List ℕ) (b : Breach) (j : ℕ) : Type 0 where
  pub filed : Filed (sink s st) table
  pub tabled : Tabled (key_of table) (held (sink s st)) (slots_of table)
  pub slot : FreeFor (key_of table) (held (sink s st)) (slots_of table) b j
  pub inside : j + 1 < length table
  pub place : st.used < 4294967295

-- ---- what is lent to a function that reports each pair once, and what it does

-- no slot is taken, whatever the key is
abbrev pub Empty : List ℕ → Type 0
Empty table = (j : ℕ) → get_or (slots_of table) j 0 ≡ 0

-- the buffer with its state, and the table that has its reports
pub record Lent (s : Sink) (table : List ℕ) : Type 0 where
  pub sound : Sound s
  pub filed : Filed s table

abbrev pub Pushed : List ℕ → State → List Breach → List ℕ → State → List ℕ → Type 0
Pushed before st bs after st' table = Recorded push (λ (s : Sink). Lent s table) before st bs after st'
