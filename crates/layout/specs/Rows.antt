-- For contracts inside the crates: the words of a row that is lent with its ledger.
use Rattle.std.specs.Prelude.{List, ℕ}
use Rattle.rules.specs.Layout as Layout
use Rattle.layout.specs.declared.row.Row.{Row}
use Rattle.layout.specs.declared.entry.Entry.{Entry}

abbrev pub own : Row → List ℕ
own r = Layout.row r.size.hours r.words.now r.n

abbrev pub own_of : Entry → List ℕ
own_of e = Layout.row e.ledger.size.hours e.ledger.words.now e.n
