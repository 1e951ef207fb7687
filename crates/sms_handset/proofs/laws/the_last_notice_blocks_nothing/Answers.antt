use Rattle.std.proofs.Common.{◌≡◌, ◌≤◌, arith, Bool, true, false, refl, ap, ◌∙◌}
use Rattle.std.specs.Prelude.{◌&&◌, nat_lt, length}
use Rattle.std.proofs.lemmas.Bool.{cond-false, le-ltb}
use Rattle.sms_handset_draft.specs.Draft.{Draft}
use Rattle.sms_handset_draft.specs.MemoryAvailable.{first_notice, most_notices}
use Rattle.sms_handset_draft.specs.Outbox.{is_notice_next, offer_message, offer_wanted}
use Rattle.sms_handset_rows.specs.outbox.References.{held_references, next_free}
use Rattle.sms_handset.proofs.laws.the_last_notice_blocks_nothing.Goals as goal

none_after : (a b : Bool) → (a && (false && b)) ≡ false
none_after true b = refl
none_after false b = refl

not_next : (d : Draft) → d.rows.counters.notice ≡ 4294967295 → is_notice_next d ≡ false
not_next d e =
    ap (λ (b : Bool). nat_lt 0 d.notices_wanted && (b && nat_lt (length d.notices) most_notices)) (le-ltb d.rows.counters.notice 4294967295 (let l : 4294967295 ≤ d.rows.counters.notice = omega arith in l))
    ∙ none_after (nat_lt 0 d.notices_wanted) (nat_lt (length d.notices) most_notices)

holds : (d : Draft) → d.rows.counters.notice ≡ 4294967295 → offer_wanted d ≡ offer_message d
holds d e =
    cond-false (is_notice_next d) (first_notice d.rows.counters.notice (next_free d.rows.counters.reference (held_references d.notices d.rows.outbox)) d) (offer_message d) (not_next d e)

pub returns : goal.returns
returns c = holds
