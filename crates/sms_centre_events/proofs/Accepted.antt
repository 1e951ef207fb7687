-- What a submission becomes is what the definition says of its text and of its number.
use Rattle.std.proofs.Common.{◌≡◌, ℕ, ◌<◌, ◌≤◌, nat_le, nat_lt, List, [], ◌∷◌, length, Bool, true, false, Option, Some, None, refl, sym, ◌∙◌, ap, subst}
use Rattle.std.proofs.lemmas.Bool.{cond-false, cond-true, le-leb, leb-true}
use Rattle.std.specs.Prelude.{SomeIff, if◌then◌else◌}
use Rattle.sms_base.specs.MessageId.{IsMessageId}
use Rattle.sms_concat.specs.declared.content.Content.{Content}
use Rattle.sms_concat.specs.UserData.{AreUnits, capacity}
use Rattle.sms_rows.specs.table.Table.{Rises}
use Rattle.sms_centre_rows.specs.messages.Messages.{message_key}
use Rattle.sms_centre_rows.specs.messages.SplitReferences.{next_split}
use Rattle.sms_intake.specs.declared.submission.SinglePart.{SinglePart}
use Rattle.sms_intake.specs.declared.submission.Submission.{Submission}
use Rattle.sms_intake.specs.declared.submission.Text.{Text}
use Rattle.sms_intake.specs.declared.submission.Text.TheVariants.{Single, Whole}
use Rattle.sms_intake.specs.PartBodies.{HasUnits, bodies_under, is_long}
use Rattle.sms_centre_spec.specs.Draft.{Draft, Store, bars_in, messages_in, parts_in, rows_of}
use Rattle.sms_centre_spec.specs.MessageNumbers.{next_number}
use Rattle.sms_centre_spec.specs.declared.rows.Rows.{Rows}
use Rattle.sms_centre_spec.specs.Consistent.{IsSubmission}
use Rattle.sms_centre_spec.specs.Submitting.{accept_as, accept_split, accept_under}
use Rattle.sms_centre_spec.proofs.NextNumbers.{below_next_number, some_next_number}
use Rattle.sms_centre_draft.specs.Submitting.{AreBodies, IsNewId}
use Rattle.sms_centre_draft.specs.CentreDraft.{Represents, CentreDraftOf}

-- ---- one part

pub accepted_one : (id : ℕ) (u : Submission) (part : SinglePart) (parts : List SinglePart) (s : Store) → u.text ≡ Single part → parts ≡ part ∷ [] → accept_under id None parts u s ≡ accept_as id u s
accepted_one id u part parts s one are =
    ap (λ (bodies : List SinglePart). accept_under id None bodies u s) are
    ∙ sym (ap (λ (t : Text). if is_long t then accept_split id (next_split u.source u.handset (bars_in s) (messages_in s) (parts_in s)) u s else accept_under id None (bodies_under 0 t) u s) one)

pub one_body : (u : Submission) (part : SinglePart) (parts : List SinglePart) → IsSubmission u → u.text ≡ Single part → parts ≡ part ∷ [] → AreBodies u parts
one_body u part parts is one are =
    subst (λ (bodies : List SinglePart). AreBodies u bodies) (ap (λ (t : Text). bodies_under 0 t) one ∙ sym are) (is.bodies 0)

-- ---- a content, split or not

-- what it becomes, by its text
abbrev pub becomes : ℕ → Submission → Store → Text → Option Store
becomes id u s t =
    if is_long t then accept_split id (next_split u.source u.handset (bars_in s) (messages_in s) (parts_in s)) u s else accept_under id None (bodies_under 0 u.text) u s

pub accepted_long : (id : ℕ) (u : Submission) (c : Content) (s : Store) → u.text ≡ Whole c → nat_lt (capacity c.coding) (length c.units) ≡ true
    → accept_split id (next_split u.source u.handset (bars_in s) (messages_in s) (parts_in s)) u s ≡ accept_as id u s
accepted_long id u c s whole long =
    sym (ap (λ (t : Text). becomes id u s t) whole
    ∙ cond-true (is_long (Whole c)) (accept_split id (next_split u.source u.handset (bars_in s) (messages_in s) (parts_in s)) u s) (accept_under id None (bodies_under 0 u.text) u s) long)

pub accepted_short : (id : ℕ) (u : Submission) (c : Content) (s : Store) → u.text ≡ Whole c → nat_lt (capacity c.coding) (length c.units) ≡ false
    → accept_under id None (bodies_under 0 u.text) u s ≡ accept_as id u s
accepted_short id u c s whole short =
    sym (ap (λ (t : Text). becomes id u s t) whole
    ∙ cond-false (is_long (Whole c)) (accept_split id (next_split u.source u.handset (bars_in s) (messages_in s) (parts_in s)) u s) (accept_under id None (bodies_under 0 u.text) u s) short)

-- the parts of a content are those of the submission: user data, and at most 20
pub same_bodies : (u : Submission) (c : Content) (reference : ℕ) (t : Text) (parts : List SinglePart) → u.text ≡ Whole c → t ≡ Whole c → parts ≡ bodies_under reference t → bodies_under reference u.text ≡ parts
same_bodies u c reference t parts whole is are = ap (λ (x : Text). bodies_under reference x) (whole ∙ sym is) ∙ sym are

pub content_bodies : (u : Submission) (c : Content) (reference : ℕ) (t : Text) (parts : List SinglePart) → IsSubmission u → u.text ≡ Whole c → t ≡ Whole c → parts ≡ bodies_under reference t
    → AreBodies u parts
content_bodies u c reference t parts one whole is are =
    subst (λ (bodies : List SinglePart). AreBodies u bodies) (same_bodies u c reference t parts whole is are) (one.bodies reference)

pub few_bodies : (u : Submission) (c : Content) (reference : ℕ) (t : Text) (parts : List SinglePart) → IsSubmission u → u.text ≡ Whole c → t ≡ Whole c → parts ≡ bodies_under reference t
    → length parts ≤ 20
few_bodies u c reference t parts one whole is are =
    subst (λ (bodies : List SinglePart). length bodies ≤ 20) (same_bodies u c reference t parts whole is are) (one.few reference)

-- it has the units of the content
pub text_units : (t : Text) (c : Content) → t ≡ Whole c → AreUnits c.coding c.units → HasUnits t
text_units t c is units = subst (λ (x : Text). HasUnits x) (sym is) units

pub whole_units : (t : Text) (c : Content) → t ≡ Whole c → HasUnits t → AreUnits c.coding c.units
whole_units t c is units = subst (λ (x : Text). HasUnits x) is units

-- ---- none is free

pub none_split : (id : ℕ) (u : Submission) (o : Option ℕ) (s : Store) → o ≡ None → accept_split id o u s ≡ None
none_split id u o s e = ap (λ (x : Option ℕ). accept_split id x u s) e

pub some_split : (id reference : ℕ) (u : Submission) (o : Option ℕ) (s : Store) → o ≡ Some reference → accept_split id o u s ≡ accept_under id (Some reference) (bodies_under reference u.text) u s
some_split id reference u o s e = ap (λ (x : Option ℕ). accept_split id x u s) e

-- ---- its number

pub numbered : (n id : ℕ) (b : Bool) → Some id ≡ (if b then Some n else None) → (b ≡ true) × (id ≡ n)
numbered n id true e = (refl, cc)
numbered n id false e = absurd cc

pub no_number : (n : ℕ) (b : Bool) → None ≡ (if b then Some n else None) → b ≡ false
no_number n true e = absurd cc
no_number n false e = refl

pub next_new : (d : Draft) (w : CentreDraftOf) (id : ℕ) → Represents d w → id ≡ next_number (rows_of d.store) → IsNewId id d.store
next_new d w id represents is m among = subst (λ (n : ℕ). m.id < n) (sym is) (below_next_number (rows_of d.store) m represents.consistent.message_keys among)

-- ---- the next number, if one is left

some_or_none : (n : ℕ) (o : Option ℕ) (b : Bool) → nat_le n 9999999999 ≡ b → 0 < n → SomeIff o (IsMessageId n) n → o ≡ (if b then Some n else None)
some_or_none n None true e some is = absurd (is (record { some = some; short = leb-true n 9999999999 e }))
some_or_none n None false e some is = refl
some_or_none n (Some x) true e some is = ap (λ (k : ℕ). Some k) is.1
some_or_none n (Some x) false e some is = let bad : true ≡ false = sym (le-leb n 9999999999 is.0.short) ∙ e in absurd cc

pub next_found : (n : ℕ) (o : Option ℕ) (rows : Rows) → Rises message_key rows.messages → n ≡ next_number rows → SomeIff o (IsMessageId n) n
    → o ≡ (if nat_le (next_number rows) 9999999999 then Some (next_number rows) else None)
next_found n o rows rises is found =
    some_or_none (next_number rows) o (nat_le (next_number rows) 9999999999) refl (some_next_number rows rises)
    (subst (λ (x : ℕ). SomeIff o (IsMessageId x) x) is found)
