-- Annulments in order: whether references can be annulled one after another, each by its row's seller.
use Rattle.std.specs.Prelude.{◌≡◌, Bool, true, false, ◌&&◌, List, [], ◌∷◌, ℕ, ◌<◌, eqb, length}
use Rattle.words.specs.Lists.{word_at}
use Rattle.rules.specs.Numbers.{ANNULLED}
use Rattle.rules.specs.Layout.{hours, row_of, issued, row, seller}
use Rattle.rules.specs.Act.{outcome}
use Rattle.rules.specs.declared.Action.{Action}

-- the annulment of reference r, by its row's seller: 2 Seller status, to 16
abbrev pub annulment : List ℕ → ℕ → Action
annulment l r =
    record { kind = 2; actor = seller (row (hours l) l (row_of r)); reference = r; reqtype = 0; status = ANNULLED; seller = 0; related = 0; start = 0; stop = 0; flags = 0; price = 0; time = 0; offset = 0; length = 0; path = 0 }

-- yes exactly if each is accepted, on the ledger and the postings that the one before left. The empty list gives yes
unfoldable pub annuls_in_order : List ℕ → List ℕ → List ℕ → Bool
annuls_in_order l ps [] = true
annuls_in_order l ps (r ∷ rs) =
    let o = outcome l ps [] (annulment l r) in
    eqb o.answer.number 0 && annuls_in_order o.ledger o.postings rs

-- a reference named twice gives no, as does one that is not there, on any words
abbrev pub TwiceIsNo : Type 0
TwiceIsNo = (l ps refs : List ℕ) (i j : ℕ) → i < j → j < length refs → word_at refs i ≡ word_at refs j → annuls_in_order l ps refs ≡ false

abbrev pub AbsentIsNo : Type 0
AbsentIsNo = (l ps refs : List ℕ) (k : ℕ) → k < length refs → issued l (word_at refs k) ≡ false → annuls_in_order l ps refs ≡ false
