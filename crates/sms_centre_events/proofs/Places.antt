-- The account at a place of the setup.
use Rattle.std.proofs.Common.{◌≡◌, ℕ, zero, suc, ◌<◌, ◌≤◌, arith, length, get_or, List, [], ◌∷◌, Option, Some, None, option_copied, Bor, refl, sym, ◌∙◌, ap}
use Rattle.sms_base.specs.Address.{IsAddress}
use Rattle.sms_intake.specs.declared.submission.CentreAccount.{CentreAccount}
use Rattle.sms_centre_spec.specs.declared.setup.Setup.{Setup}
use Rattle.sms_centre_spec.specs.Draft.{Draft}
use Rattle.sms_centre_spec.specs.Requests.{account_at}
use Rattle.sms_centre_spec.specs.SoundRows.{IsSetup}
use Rattle.sms_centre_draft.specs.CentreDraft.{Represents, CentreDraftOf}
use Rattle.sms_centre_spec.proofs.PduFits.{account_among}

pub account_past : (place : ℕ) (accounts : List CentreAccount) → length accounts ≤ place → account_at place accounts ≡ None
account_past place [] past = refl
account_past zero (a ∷ accounts) past = absurd (omega (arith, past))
account_past (suc place) (a ∷ accounts) past = account_past place accounts (omega (arith, past))

pub account_got : (place : ℕ) (accounts : List CentreAccount) (x : CentreAccount) → place < length accounts → x ≡ get_or accounts place x → account_at place accounts ≡ Some x
account_got place [] x low is = absurd (omega (arith, low))
account_got zero (a ∷ accounts) x low is = ap (λ (y : CentreAccount). Some y) (sym is)
account_got (suc place) (a ∷ accounts) x low is = account_got place accounts x (omega (arith, low)) is

module _ (place : ℕ) (d : Draft) (w : CentreDraftOf) (r : Option (Bor CentreAccount)) where
  pub account_there : (a : Bor CentreAccount) → Represents d w → option_copied r ≡ account_at place w.setup.accounts → r ≡ Some a → account_at place d.store.setup.accounts ≡ Some a.now
  account_there a represents is there = ap (λ (s : Setup). account_at place s.accounts) (sym represents.setup) ∙ sym is ∙ ap (λ (x : Option (Bor CentreAccount)). option_copied x) there

  pub no_account : Represents d w → option_copied r ≡ account_at place w.setup.accounts → r ≡ None → account_at place d.store.setup.accounts ≡ None
  no_account represents is there = ap (λ (s : Setup). account_at place s.accounts) (sym represents.setup) ∙ sym is ∙ ap (λ (x : Option (Bor CentreAccount)). option_copied x) there

-- its address is one
pub account_address : (place : ℕ) (w : CentreDraftOf) (r : Option (Bor CentreAccount)) (a : Bor CentreAccount) → IsSetup w.setup → option_copied r ≡ account_at place w.setup.accounts → r ≡ Some a → IsAddress a.now.address
account_address place w r a setup is there =
    setup.accounts a.now (account_among place a.now w.setup.accounts (sym is ∙ ap (λ (x : Option (Bor CentreAccount)). option_copied x) there))
