-- A walk over handsets, one after the other.
use Rattle.std.proofs.Common.{◌≡◌, ℕ, List, [], ◌∷◌, sym, ◌∙◌, ap, subst}
use Rattle.sms_centre_queue.specs.declared.queues.concern.ConcernedHandset.{ConcernedHandset}
use Rattle.sms_centre_queue.specs.queues.Walks.{walk}
use Rattle.sms_centre_spec.specs.Draft.{Draft}
use Rattle.sms_centre_draft.specs.CentreDraft.{Represents, CentreDraftOf}

-- ---- what is left of it

pub record IsLeft (step : List ℕ → Draft → Draft) (d : Draft) (stops rest : List ConcernedHandset) (w : CentreDraftOf) : Type 0 where
  pub draft : Draft
  pub represents : Represents draft w
  pub goes : walk step rest draft ≡ walk step stops d

pub left_next : (step : List ℕ → Draft → Draft) (d : Draft) (stops rest : List ConcernedHandset) (s : ConcernedHandset) (behind : List ConcernedHandset) (w new : CentreDraftOf) → rest ≡ s ∷ behind → IsLeft step d stops rest w
    → ((e : Draft) → Represents e w → Represents (step s.number e) new) → IsLeft step d stops behind new
left_next step d stops rest s behind w new split left does = record {
  draft = step s.number left.draft;
  represents = does left.draft left.represents;
  goes = sym (ap (λ (ss : List ConcernedHandset). walk step ss left.draft) split) ∙ left.goes;
}

pub left_none : (step : List ℕ → Draft → Draft) (d : Draft) (stops rest : List ConcernedHandset) (w : CentreDraftOf) → rest ≡ [] → IsLeft step d stops rest w → Represents (walk step stops d) w
left_none step d stops rest w none left =
    subst (λ (e : Draft). Represents e w) (sym (ap (λ (ss : List ConcernedHandset). walk step ss left.draft) none) ∙ left.goes) left.represents
