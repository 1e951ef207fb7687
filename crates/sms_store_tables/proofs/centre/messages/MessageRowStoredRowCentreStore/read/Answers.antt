use Rattle.std.proofs.Common.{refl, rules}
use Rattle.sms_store_sql.proofs.listing.Columns.{has_in}
use Rattle.sms_store_tables.proofs.centre.messages.MessageRowStoredRowCentreStore.read.Goals as goal

pub returns-in_err-id-clause-back : goal.returns-in_err-id-clause-back
returns-in_err-id-clause-back c x fits same = let lacks = c.in_err-id.ensures.only x.id fits.id (has_in _ _ 0 _ same refl refl) in search (rules, lacks)

pub returns-in_err-originator-clause-back : goal.returns-in_err-originator-clause-back
returns-in_err-originator-clause-back c x fits same = let lacks = c.in_err-originator.ensures.only x.originator fits.originator (has_in _ _ 1 _ same refl refl) (has_in _ _ 2 _ same refl refl) in search (rules, lacks)

pub returns-in_err-source-clause-back : goal.returns-in_err-source-clause-back
returns-in_err-source-clause-back c x fits same = let lacks = c.in_err-source.ensures.only x.source fits.source (has_in _ _ 3 _ same refl refl) (has_in _ _ 4 _ same refl refl) (has_in _ _ 5 _ same refl refl) in search (rules, lacks)

pub returns-in_err-handset-clause-back : goal.returns-in_err-handset-clause-back
returns-in_err-handset-clause-back c x fits same = let lacks = c.in_err-handset.ensures.only x.handset fits.handset (has_in _ _ 6 _ same refl refl) in search (rules, lacks)

pub returns-in_err-data_coding_scheme-clause-back : goal.returns-in_err-data_coding_scheme-clause-back
returns-in_err-data_coding_scheme-clause-back c x fits same = let lacks = c.in_err-data_coding_scheme.ensures.only x.data_coding_scheme fits.data_coding_scheme (has_in _ _ 7 _ same refl refl) in search (rules, lacks)

pub returns-in_err-protocol_identifier-clause-back : goal.returns-in_err-protocol_identifier-clause-back
returns-in_err-protocol_identifier-clause-back c x fits same = let lacks = c.in_err-protocol_identifier.ensures.only x.protocol_identifier fits.protocol_identifier (has_in _ _ 8 _ same refl refl) in search (rules, lacks)

pub returns-in_err-wish-clause-back : goal.returns-in_err-wish-clause-back
returns-in_err-wish-clause-back c x fits same = let lacks = c.in_err-wish.ensures.only x.wish (has_in _ _ 9 _ same refl refl) in search (rules, lacks)

pub returns-in_err-submitted-clause-back : goal.returns-in_err-submitted-clause-back
returns-in_err-submitted-clause-back c x fits same = let lacks = c.in_err-submitted.ensures.only x.submitted fits.submitted (has_in _ _ 10 _ same refl refl) in search (rules, lacks)

pub returns-in_err-limit-clause-back : goal.returns-in_err-limit-clause-back
returns-in_err-limit-clause-back c x fits same = let lacks = c.in_err-limit.ensures.only x.limit fits.limit (has_in _ _ 11 _ same refl refl) in search (rules, lacks)

pub returns-in_err-split_reference-clause-back : goal.returns-in_err-split_reference-clause-back
returns-in_err-split_reference-clause-back c x fits same = let lacks = c.in_err-split_reference.ensures.only x.split_reference fits.split_reference (has_in _ _ 12 _ same refl refl) in search (rules, lacks)

pub returns-in_err-state-clause-back : goal.returns-in_err-state-clause-back
returns-in_err-state-clause-back c x fits same = let lacks = c.in_err-state.ensures.only x.state (has_in _ _ 13 _ same refl refl) in search (rules, lacks)

pub returns-in_err-done-clause-back : goal.returns-in_err-done-clause-back
returns-in_err-done-clause-back c x fits same = let lacks = c.in_err-done.ensures.only x.done fits.done (has_in _ _ 14 _ same refl refl) in search (rules, lacks)
