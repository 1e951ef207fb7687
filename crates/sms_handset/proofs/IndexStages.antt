-- The index with a change put in.
use Rattle.std.proofs.Common.{◌≡◌, ℕ, Option, sym, ◌∙◌, ap}
use Rattle.sms_handset_rows.specs.declared.inbox.open_group.OpenGroup.{OpenGroup}
use Rattle.sms_handset_rows.specs.declared.inbox.open_group.Regrouping.{Regrouping}
use Rattle.sms_handset_rows.specs.declared.inbox.open_groups.OpenGroups.{OpenGroups}
use Rattle.sms_handset_rows.specs.inbox.OpenGroups.{regrouped}
use Rattle.sms_handset_rows.specs.inbox.OpenIndex.{Indexes, under}
use Rattle.sms_handset_draft.specs.declared.rows.Rows.{Rows}
use Rattle.sms_handset_draft.specs.Regrouping.{IsRegrouped}

-- ---- changes

pub indexes_then : (r : Regrouping) (i j : OpenGroups) (before after : Rows) → ((n : ℕ) → under j n ≡ regrouped r n (under i n)) → Indexes i before.entries
    → IsRegrouped r before after → Indexes j after.entries
indexes_then r i j before after h index is n = h n ∙ ap (λ (o : Option OpenGroup). regrouped r n o) (index n) ∙ sym (is.0 n)
