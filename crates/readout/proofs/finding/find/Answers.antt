use Rattle.std.proofs.Common.{false, ◌≡◌}
use Rattle.rules.specs.Layout.{issued}
use Rattle.readout.proofs.Laws.{unsound_none, unissued_none, missing_unsound, missing_unissued}
use Rattle.readout.proofs.finding.find.Goals as goal

pub returns-in_default : goal.returns-in_default
returns-in_default c = record { none = unsound_none _ _ c.in_default.ensures; number = missing_unsound _ _ c.in_default.ensures }

pub returns-in_default-find : goal.returns-in_default-find
returns-in_default-find c =
    let s = c.in-Some.ensures.0 in
    let i : issued c.args.l.now c.args.reference ≡ false = cc (c.in_default-find.ensures, c.in-Some.ensures.1) in
    record { none = unissued_none _ _ s i; number = missing_unissued _ _ s i }

pub returns : goal.returns
returns c =
    let ledger = c.in-Some.ensures in
    let found = c.in-Some-find.ensures in
    let hours = c.in-Some.ledger.sound_at.hours in
    record {
      sound = ledger.0;
      issued = cc (found.0, ledger.1);
      is = cc (found.1, found.2, found.3, ledger.1, hours);
      hours = cc (found.2, ledger.1, hours);
    }
