-- A status report goes to the handset that wished it, under a reference of its own, until it is acknowledged.
use Rattle.std.proofs.Common.{◌≡◌, ◌+◌, List, [], ◌∷◌, refl}
use Rattle.std.specs.Prelude.{codes}
use Rattle.sms_base.specs.declared.final_state.FinalState.TheVariants.{Delivered}
use Rattle.sms_centre_rows.specs.declared.waiting.handset.HandsetRow.{HandsetRow}
use Rattle.sms_centre_spec.specs.Draft.{Core, Draft, core_of}
use Rattle.sms_centre_spec.specs.CentreEvent.{submit_received, ticked}
use Rattle.sms_receipt.specs.StatusReports.{status_octets}
use Rattle.sms_centre_spec.specs.Finals.{final_of}
use Rattle.sms_centre_spec.proofs.Everything.{everything}
use Rattle.sms_centre_spec.proofs.Worked.{hex, t0, handset_a, handset_b, begun, hello_to, comes, sent, row_of, references_of}

abbrev pub one : Draft
one = comes handset_a (hex (codes "09011E00030007914477000900001221070C91447700094065000005E8329BFD06")) (begun (handset_a ∷ handset_b ∷ []))

offered : sent one ≡ hex (codes "8904") ∷ hex (codes "89010D03034109010042209232958500") ∷ hex (codes "090124010007914477000900000018240C9144770009103200004220923295850005E8329BFD06") ∷ []
unfolding everything
offered = refl

abbrev pub two : Draft
two = ticked (t0 + 2) (core_of (comes handset_b (hex (codes "8904")) (core_of one)))

abbrev pub three : Draft
three = comes handset_b (hex (codes "890106020041020000")) (core_of two)

told_a : sent three ≡ hex (codes "0904") ∷ hex (codes "09012501000791447700090000001906070C91447700094065422092329585004230100000000000") ∷ []
unfolding everything
told_a = refl

octets : status_octets (final_of Delivered (t0 + 2) (row_of (core_of three).rows)) ≡ hex (codes "06070C91447700094065422092329585004230100000000000")
unfolding everything
octets = refl

its_own : three.links.read ≡ []
unfolding everything
its_own = refl

-- the report holds reference 0 at A: a part takes the next one, even where 0 would come next

abbrev pub turned : List HandsetRow → List HandsetRow
turned [] = []
turned (h ∷ hs) = record h { last_reference = 255 } ∷ turned hs

abbrev pub wrapped : Core
wrapped = core_of (ticked (t0 + 5) (record (core_of three) { rows = record (core_of three).rows { handsets = turned (core_of three).rows.handsets } }))

held : references_of (core_of (submit_received 0 (hello_to handset_a) wrapped)).rows ≡ 0 ∷ 1 ∷ []
unfolding everything
held = refl

abbrev pub four : Draft
four = comes handset_a (hex (codes "890106020041020000")) (core_of (comes handset_a (hex (codes "8904")) (core_of (comes handset_a (hex (codes "0904")) (core_of three)))))

closed : sent four ≡ hex (codes "0904") ∷ []
unfolding everything
closed = refl

abbrev pub five : Draft
five = ticked (t0 + 4000) (core_of four)

no_more : sent five ≡ []
unfolding everything
no_more = refl
