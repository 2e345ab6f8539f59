-- Reductions kept in the row, at work: expected answers and words worked out from the text of request P5, by hand;
-- shown by computation.
use mathlib.Core.Path.{◌≡◌, refl}
use mathlib.Core.List.{List, [], ◌∷◌}
use Prim.Native.Nat.{ℕ, ◌+◌, ◌*◌}
use lib.ListN.{length, set, take}
use Rattle.words.specs.Lists.{noughts}
use Rattle.rules.specs.Rules.{rules}
use Rattle.rules.specs.Numbers.{reduced_part}
use Rattle.rules.specs.Layout.{row, row_base, hour_at, available, displaced, reduced}
use Rattle.rules.specs.Create.{create_number}
use Rattle.rules.specs.Calls.{Run, run_actions, answers}
use Rattle.rules.specs.Day.{names, line, day_words, day_actions, day_ledger, day_posted}
use Rattle.rules.specs.declared.Action.{Action}

-- a ledger of the day's size has five profiles in a row
five_profiles : (length day_ledger ≡ 8 + 8 * (16 + 5 * 4)) × (create_number (noughts (8 + 8 * (16 + 5 * 4))) 8 4 1 3600 0 ≡ 0) × (create_number (noughts (8 + 8 * (16 + 4 * 4))) 8 4 1 3600 0 ≡ 1)
unfolding rules
five_profiles = (refl, refl, refl)

-- the day after its first five actions: of row 0, 100 in hours 0 to 4, row 1 has bought 40 and 60 in hours 1 and 2
begun : Run
begun = run_actions day_posted.ledger day_posted.postings day_words (take 5 day_actions)

words : List ℕ
words = 10 ∷ 0 ∷ 20 ∷ 30 ∷ 0 ∷ 60 ∷ 5 ∷ 0 ∷ 91 ∷ 0 ∷ 0 ∷ 0 ∷ 101 ∷ 0 ∷ 0 ∷ 0 ∷ 15 ∷ 0 ∷ []

-- the provider reduces: reference, offset and length of the profile
reduces : ℕ → ℕ → ℕ → Action
reduces reference offset length =
    record { kind = 5; actor = 1; reference = reference; reqtype = 0; status = 0; seller = 0; related = 0; start = 0; stop = 0; flags = 0; price = 0; time = 0; offset = offset; length = length; path = 0 }

does : List ℕ → List Action → Run
does l actions = run_actions l day_posted.postings words actions

-- row 0 is reduced twice and row 1 once; neither can be annulled now; both are displaced, and reduced no more
cut : Run
cut =
    does begun.ledger
    (reduces 1 0 4 ∷ reduces 1 4 4 ∷ reduces 1 8 4 ∷ reduces 2 16 2 ∷ names 2 1 1 16 0 ∷ names 2 10 2 16 0 ∷ names 2 1 1 15 0 ∷ names 2 10 2 15 0 ∷ reduces 1 0 4 ∷ [])

reductions_at_work :
    (answers cut.done
    ≡ line 0 1 13 13 60
    ∷ line 0 1 13 13 65
    ∷ line 14 0 0 0 0
    ∷ line 0 2 13 13 15
    ∷ line 15 0 0 0 0
    ∷ line 15 0 0 0 0
    ∷ line 0 1 13 15 175
    ∷ line 0 2 13 15 85
    ∷ line 11 0 0 0 0
    ∷ [])
    × (available 4 (row 4 cut.ledger 1) ≡ 0 ∷ 0 ∷ [])
    × (displaced 4 (row 4 cut.ledger 1) ≡ 25 ∷ 60 ∷ [])
    × (reduced 4 (row 4 cut.ledger 1) ≡ 15 ∷ 0 ∷ [])
unfolding rules begun words reduces does cut
reductions_at_work = (refl, refl, refl, refl)

-- every word of row 0: type, status, parties, related, span, flags, prices, limit, path, four zeros; then requested,
-- granted, available, displaced, reduced
whole_row :
    row 4 cut.ledger 0
    ≡ 1 ∷ 15 ∷ 10 ∷ 1 ∷ 0 ∷ 0 ∷ 4 ∷ 24 ∷ 500 ∷ 500 ∷ 3600 ∷ 1 ∷ 0 ∷ 0 ∷ 0 ∷ 0
    ∷ 100 ∷ 100 ∷ 100 ∷ 100
    ∷ 100 ∷ 100 ∷ 100 ∷ 100
    ∷ 0 ∷ 0 ∷ 0 ∷ 0
    ∷ 90 ∷ 0 ∷ 15 ∷ 70
    ∷ 10 ∷ 60 ∷ 25 ∷ 30
    ∷ []
unfolding rules begun words reduces does cut
whole_row = refl

-- foreign words: after the day's first three actions row 0 has the reduced word v in hour h
foreign : ℕ → ℕ → List ℕ
foreign h v = set (run_actions day_posted.ledger day_posted.postings day_words (take 3 day_actions)).ledger (row_base 4 0 + hour_at 4 reduced_part h) v

-- a reduced word at 100,000 that gets 10 more, or 91, is a 1; that gets 0 more, none; 14 comes before it
full : Run
full = does (foreign 0 100000) (reduces 1 0 4 ∷ reduces 1 4 4 ∷ reduces 1 8 4 ∷ reduces 1 12 4 ∷ [])

full_reductions :
    (answers full.done ≡ line 1 0 0 0 0 ∷ line 0 1 13 13 65 ∷ line 1 0 0 0 0 ∷ line 14 0 0 0 0 ∷ [])
    × (available 4 (row 4 full.ledger 0) ≡ 100 ∷ 40 ∷ 95 ∷ 100 ∷ [])
    × (reduced 4 (row 4 full.ledger 0) ≡ 100000 ∷ 60 ∷ 5 ∷ 0 ∷ [])
unfolding rules foreign words reduces does full
full_reductions = (refl, refl, refl)

-- an annulment looks at available and granted alone, and leaves reduced
annulled : Run
annulled = does (foreign 0 100000) (names 2 1 1 16 0 ∷ [])

annulled_keeps : (answers annulled.done ≡ line 0 1 13 16 400 ∷ []) × (reduced 4 (row 4 annulled.ledger 0) ≡ 100000 ∷ 0 ∷ 0 ∷ 0 ∷ [])
unfolding rules foreign words does annulled
annulled_keeps = (refl, refl)

-- a reduced word over 100,000, and one outside the span, make a ledger unsound
unsound_reduced :
    (answers (does (foreign 3 100001) (names 2 1 1 15 0 ∷ [])).done ≡ line 1 0 0 0 0 ∷ [])
    × (answers (does (set begun.ledger (row_base 4 1 + hour_at 4 reduced_part 0) 1) (names 2 1 1 15 0 ∷ [])).done ≡ line 1 0 0 0 0 ∷ [])
unfolding rules begun foreign words does
unsound_reduced = (refl, refl)
