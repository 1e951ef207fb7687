-- The values of the options of a look are those of the words.
use Rattle.std.proofs.Common.{◌≡◌, ℕ, List, Bool, ap, Option, Some, codes, option_map, sym, subst, ◌∙◌}
use Rattle.sms_base.specs.MessageId.{IsIdText}
use Rattle.smsc_cli.specs.declared.centre_table.selecting.Filter.{Filter}
use Rattle.smsc_cli.specs.declared.words.look.LookOptions.{LookOptions}
use Rattle.smsc_cli.specs.words.LookWords.{AreLookOptions, IsCountText, IsMessageText, IsPartyText, IsStateWord, MayBe, SpelledFilter, SpelledLook, SpellsDigits, SpellsLook, Wants}
use Rattle.smsc_cli.specs.words.Numbers.{SpellsCount}
use Rattle.smsc_cli.specs.words.Options.{is_given}

pub looked : (given : List ℕ → Option (List ℕ)) (o : LookOptions) (store : List ℕ) (filter : Filter) (by_handset : Bool) → AreLookOptions given o
    → option_map (λ s. s.now) o.store ≡ Some store → SpelledFilter o filter → by_handset ≡ is_given (option_map (λ s. s.now) o.stuck)
    → SpelledLook given store filter by_handset
looked given o store filter by_handset a s h f = record {
  store = sym a.store ∙ s;
  id = subst (λ v. Wants IsIdText v filter.id) a.id h.id;
  from = subst (λ v. Wants SpellsDigits v filter.from) a.from h.from;
  to = subst (λ v. Wants SpellsDigits v filter.to) a.to h.to;
  account = sym a.account ∙ h.account;
  state = sym a.state ∙ h.state;
  known = subst (MayBe IsStateWord) a.state h.known;
  last = subst (λ v. Wants SpellsCount v filter.last) a.last h.last;
  stuck = f ∙ ap is_given a.stuck;
}

pub given_to : (given : List ℕ → Option (List ℕ)) (o : LookOptions) → AreLookOptions given o
    → SpellsLook (given (codes "store")) (given (codes "id")) (given (codes "from")) (given (codes "to")) (given (codes "state")) (given (codes "last"))
    → SpellsLook (option_map (λ s. s.now) o.store) (option_map (λ s. s.now) o.id) (option_map (λ s. s.now) o.from) (option_map (λ s. s.now) o.to) (option_map (λ s. s.now) o.state) (option_map (λ s. s.now) o.last)
given_to given o a h = (
  (h.0.0, a.store ∙ h.0.1),
  (
    subst (MayBe IsMessageText) (sym a.id) h.1.0,
    subst (MayBe IsPartyText) (sym a.from) h.1.1,
    subst (MayBe IsPartyText) (sym a.to) h.1.2,
    subst (MayBe IsStateWord) (sym a.state) h.1.3,
    subst (MayBe IsCountText) (sym a.last) h.1.4,
  ),
)
