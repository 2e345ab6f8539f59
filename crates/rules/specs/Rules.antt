-- All the rules by one name: `unfolding rules` opens every definition, so that closed statements compute.
use Rattle.std.specs.Prelude.{Bool, true}
use Rattle.words.specs.Lists.{splice, build, all_below, sum_below, zip2, noughts, total, every, within, zeros, covered, equal, roomy}
use Rattle.rules.specs.Numbers.{entity}
use Rattle.rules.specs.Layout.{issued, row_base, row, on_row, related_row, has_flag, flagged, span, set_hours, add_hours, less_hours, clear_hours, standing}
use Rattle.rules.specs.Create.{good_numbers, creates, fresh, create_number, created}
use Rattle.rules.specs.Sound.{original, resold, transfer, redirect, upward, firm_within, firm, relates, inside, sound_head, sound_words, sound_profile, sound_related, sound_row, unused_zero, sound}
use Rattle.rules.specs.Moves.{is_open, is_confirmed, confirmed_or_annulled, allowed, seller_moves, customer_moves, seller_may, customer_may}
use Rattle.rules.specs.Megawatts.{in_force, grant, take_from, returns_to, give_back, displaced_row, displace, annulled_row, annul, reduced_row, reduce, megawatts_within, carries_over}
use Rattle.rules.specs.Confirming.{held, emptied, confirm_original, confirm_derived, confirm_relinquish, confirm, unapproved, unconfirmed, drawn_from, short, same_span, partial, confirm_number}
use Rattle.rules.specs.Checks.{profile, comes, bad_words, bad_profile, bad_if_comes, bad_span, unknown_path, bad_price, no_reference, bad_status, not_provider, waits_at, waiting_number}
use Rattle.rules.specs.Submit.{bad_type, bad_seller, bad_flags, unfit_path, bad_path, good_related, bad_related, related_customer, bad_parties, no_row_left, submit_number, new_words, new_row, submit_after}
use Rattle.rules.specs.SellerStatus.{not_seller, no_seller_move, counters, accepts, offers, granted_after, unfit_offer, goes_on, fit_number, offer_number, annuls_confirmed, partly_used, seller_number, entered, offered, offer_after, other_after, seller_after}
use Rattle.rules.specs.CustomerStatus.{not_customer, no_customer_move, bids, confirms, requested_after, unfit_bid, bid_confirm_number, bid_number, customer_number, bidden, bid_after, customer_after}
use Rattle.rules.specs.Approve.{not_approvable, approve_number, approve_after}
use Rattle.rules.specs.Reduce.{not_reducible, reduces_too_much, reduce_number, reduce_after}
use Rattle.rules.specs.Lapse.{not_lapsing, too_early, lapse_number, lapse_after}
use Rattle.rules.specs.Clock.{bad_time, clock_number, clock_after}
use Rattle.rules.specs.Paths.{posting_at, posted_in, unposted, sound_postings, holds_on, counts_on, use_of, over_posted, over_at}
use Rattle.rules.specs.Post.{post_number, posted}
use Rattle.rules.specs.Act.{kind_number, kind_after, postings_after, common_number, uses_path, over_use, use_number, last_number, sound_number, number, refusal, subject, status_before, moved_between, moved_by, megawatt_hours, acceptance, answered, refused, accepted, step, sound_both, outcome}
use Rattle.rules.specs.Contest.{bad_term, bad_match, replied, play, ending, not_firm, bad_greatest, contest_checks, contest_number, row_kept, ended, contested, loses}
use Rattle.rules.specs.Calls.{doing, run_actions, answers, too_few, together_run, together_number, together_answers, contest_run, run_call, joined, run_calls, settled_call, settled_calls, actions_alone}
use Rattle.rules.specs.Tally.{no_entry, no_entries, put, granted_in, added, add_to, opened, requested_by, granted_by, copied, changed, sum_of, returned, booked, moved, changed_in, counts, feed, tally_from, tally}
use Rattle.rules.specs.Balance.{live, descends_within, descends, sum_to, tallied, stored, holding, Whole, Tree}
use Rattle.rules.specs.Open.{granted_of, held_of, stands, draws_on, redirect_on, relinquish_on, drawn, relinquished, taken_off, row_balances, in_tree, tree_balances, has_equation, has_tree, balanced_row, balanced_tree, unbalanced, open_number}
use Rattle.rules.specs.Annulments.{annuls_in_order}
use Rattle.rules.specs.ReadOut.{shown, cents, charge_number, charge}
use Rattle.rules.specs.Day.{day_ledger, day_words, day_actions, day_answers, day_posted, day_run}
use Rattle.rules.specs.Parallel.{two_ask, accepted_then}

unfoldable pub rules : Bool
unfolding splice build all_below sum_below zip2 noughts total every within zeros covered equal roomy entity issued row_base row on_row related_row has_flag flagged span set_hours add_hours less_hours clear_hours standing good_numbers creates fresh create_number created original resold transfer redirect upward firm_within firm relates inside sound_head sound_words sound_profile sound_related sound_row unused_zero sound is_open is_confirmed confirmed_or_annulled allowed seller_moves customer_moves seller_may customer_may in_force grant take_from returns_to give_back displaced_row displace annulled_row annul reduced_row reduce megawatts_within carries_over held emptied confirm_original confirm_derived confirm_relinquish confirm unapproved unconfirmed drawn_from short same_span partial confirm_number profile comes bad_words bad_profile bad_if_comes bad_span unknown_path bad_price no_reference bad_status not_provider waits_at waiting_number bad_type bad_seller bad_flags unfit_path bad_path good_related bad_related related_customer bad_parties no_row_left submit_number new_words new_row submit_after not_seller no_seller_move counters accepts offers granted_after unfit_offer goes_on fit_number offer_number annuls_confirmed partly_used seller_number entered offered offer_after other_after seller_after not_customer no_customer_move bids confirms requested_after unfit_bid bid_confirm_number bid_number customer_number bidden bid_after customer_after not_approvable approve_number approve_after not_reducible reduces_too_much reduce_number reduce_after not_lapsing too_early lapse_number lapse_after bad_time clock_number clock_after posting_at posted_in unposted sound_postings holds_on counts_on use_of over_posted over_at post_number posted kind_number kind_after postings_after common_number uses_path over_use use_number last_number sound_number number refusal subject status_before moved_between moved_by megawatt_hours acceptance answered refused accepted step sound_both outcome bad_term bad_match replied play ending not_firm bad_greatest contest_checks contest_number row_kept ended contested loses doing run_actions answers too_few together_run together_number together_answers contest_run run_call joined run_calls settled_call settled_calls actions_alone no_entry no_entries put granted_in added add_to opened requested_by granted_by copied changed sum_of returned booked moved changed_in counts feed tally_from tally live descends_within descends sum_to tallied stored holding Whole Tree granted_of held_of stands draws_on redirect_on relinquish_on drawn relinquished taken_off row_balances in_tree tree_balances has_equation has_tree balanced_row balanced_tree unbalanced open_number annuls_in_order shown cents charge_number charge day_ledger day_words day_actions day_answers day_posted day_run two_ask accepted_then
rules = true
