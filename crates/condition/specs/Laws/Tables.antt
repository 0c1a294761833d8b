-- Laws of a table, one on a line: `law also law also tt`.
infixr 10 ◌also◌
abbrev pub ◌also◌ : {A B : Type 0} → A → B → A × B
a also b = (a, b)
