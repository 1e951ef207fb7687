-- Offers to handsets, one after the other.
use Rattle.std.proofs.Common.{◌≡◌, ℕ, ◌∷◌, List, [], sym, ◌∙◌, ap, subst}
use Rattle.sms_base.specs.Among.{Among}
use Rattle.sms_rows.specs.declared.keep.refusals.Refusals.{Refusals}
use Rattle.sms_centre_queue.specs.declared.queues.concern.ConcernedHandset.{ConcernedHandset}
use Rattle.sms_centre_queue.specs.queues.Walks.{walk}
use Rattle.sms_centre_spec.specs.Draft.{Draft}
use Rattle.sms_centre_draft.specs.walks.Stepping.{offer_at}
use Rattle.sms_centre_draft.proofs.walks.Acting.{walk_keeps}
use Rattle.sms_centre_draft.specs.CentreDraft.{Represents, CentreDraftOf}
use Rattle.sms_centre_events.specs.offering.Refusing.{NoneRefused}
use Rattle.sms_centre_events.proofs.offering.OneOffer.{none_since, offer_reads}

-- what is left of a walk, where the store holds what it held, and refused nothing since that read
pub record IsLeft (d : Draft) (stops rest : List ConcernedHandset) (held : Type 0) (first refused : Refusals) (w : CentreDraftOf) : Type 0 where
  pub draft : Draft
  pub represents : Represents draft w
  pub same : draft.store ≡ d.store
  pub goes : walk offer_at rest draft ≡ walk offer_at stops d
  pub holds : held
  pub none : NoneRefused first refused

pub left_next : (d : Draft) (stops rest : List ConcernedHandset) (s : ConcernedHandset) (behind : List ConcernedHandset) (held then : Type 0) (first refused now : Refusals) (w new : CentreDraftOf) → rest ≡ s ∷ behind → (left : IsLeft d stops rest held first refused w)
    → Represents (offer_at s.number left.draft) new → then → NoneRefused refused now → IsLeft d stops behind then first now new
left_next d stops rest s behind held then first refused now w new split left represents holds none = record {
  draft = offer_at s.number left.draft;
  represents = represents;
  same = left.same;
  goes = sym (ap (λ (ss : List ConcernedHandset). walk offer_at ss left.draft) split) ∙ left.goes;
  holds = holds;
  none = none_since first refused now left.none none;
}

pub left_none : (d : Draft) (stops rest : List ConcernedHandset) (held : Type 0) (first refused : Refusals) (w : CentreDraftOf) → rest ≡ [] → IsLeft d stops rest held first refused w → Represents (walk offer_at stops d) w
left_none d stops rest held first refused w none left =
    subst (λ (e : Draft). Represents e w) (sym (ap (λ (ss : List ConcernedHandset). walk offer_at ss left.draft) none) ∙ left.goes) left.represents

-- what was read on the way is read in the end
pub reads_last : (d : Draft) (stops rest : List ConcernedHandset) (s : ConcernedHandset) (behind : List ConcernedHandset) (held : Type 0) (first refused : Refusals) (w : CentreDraftOf) (k : ℕ) → rest ≡ s ∷ behind → (left : IsLeft d stops rest held first refused w)
    → Among k (offer_at s.number left.draft).links.read → Among k (walk offer_at stops d).links.read
reads_last d stops rest s behind held first refused w k split left among =
    subst (λ (e : Draft). Among k e.links.read) (sym (ap (λ (ss : List ConcernedHandset). walk offer_at ss left.draft) split) ∙ left.goes)
    (walk_keeps (λ (e : Draft). Among k e.links.read) offer_at behind (offer_at s.number left.draft) (λ number e read. offer_reads number e k read) among)
