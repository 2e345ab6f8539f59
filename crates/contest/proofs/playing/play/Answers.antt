use Rattle.std.proofs.Common.{arith}
use Rattle.contest.proofs.Turns.{playing_out, playing_stops, playing_high, playing_short, playing_unanswered, playing_yields, playing_unmatched, playing_turn}
use Rattle.contest.proofs.playing.play.Goals as goal

pub returns-then-term-eq0 : goal.returns-then-term-eq0
returns-then-term-eq0 c = playing_stops c.loop-i.invariant (omega arith) (omega arith)

pub returns-then-challenger-term : goal.returns-then-challenger-term
returns-then-challenger-term c = playing_high c.loop-i.invariant (omega arith) (λ z. omega (arith, z)) (omega arith)

pub returns-then-term-last : goal.returns-then-term-last
returns-then-term-last c = playing_short c.loop-i.invariant (omega arith) (λ z. omega (arith, z)) (omega arith) (omega arith)

pub returns-in-None : goal.returns-in-None
returns-in-None c = playing_unanswered c.loop-i.invariant (omega arith) (λ z. omega (arith, z)) (omega arith) (omega arith) (omega (arith, c.in-None.ensures.lookup))

pub returns-in-Some-eq0 : goal.returns-in-Some-eq0
returns-in-Some-eq0 c =
    let g = c.in-Some-eq0.ensures.lookup in
    playing_yields c.loop-i.invariant (omega arith) (λ z. omega (arith, z)) (omega arith) (omega arith) (omega (arith, g)) (omega (arith, g, c.in-Some-eq0.field-0-is, c.in-Some-eq0.field-0-test))

pub returns-then-holder-term : goal.returns-then-holder-term
returns-then-holder-term c =
    let g = c.in-Some.ensures.lookup in
    playing_unmatched c.loop-i.invariant (omega arith) (λ z. omega (arith, z)) (omega arith) (omega arith) (omega (arith, g)) (λ z. omega (arith, z, g, c.in-Some.field-0-is, c.in-Some.field-0-test)) (omega arith)

pub loop-i-preserved : goal.loop-i-preserved
loop-i-preserved c =
    let g = c.in-Some.ensures.lookup in
    playing_turn c.loop-i.invariant (omega arith) (λ z. omega (arith, z)) (omega arith) (omega arith) (omega (arith, g)) (λ z. omega (arith, z, g, c.in-Some.field-0-is, c.in-Some.field-0-test)) (omega arith)

pub returns : goal.returns
returns c = playing_out c.loop-i.invariant (omega arith)
