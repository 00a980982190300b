-- Operations that lead a part from one state to another: with one more operation, and as the log
-- that the law of fc_linear is about.
use Rattle.std.proofs.Common.{◌≡◌, ℕ, Bool, true, false, List, [], ◌∷◌, ◌++◌, refl, sym, subst}
use Rattle.std.specs.Prelude.{if◌then◌else◌}
use Rattle.std.specs.List.{filter}
use Rattle.fc_front.specs.Exchanges.{FrontState, advanced}
use Rattle.fc_calls.specs.Doings.{AdvancesTo, FiresAt}
use Rattle.fc_linear.specs.Operations.{Operation, WordsDo, is_words, part_of}
use Rattle.fc_linear.specs.Parts.{LeadInOrder}
use Rattle.fc_filed.specs.declared.entry.FiledEntry.{FiledEntry}
use Rattle.fc_filed.specs.Entries.{ChangesWords, EntriesLead, OperationsLead, WordsDoIf, log_of}

module _ {S : Type 0} (Does : Operation → S → S → Type 0) where
  pub leads_more : (es : List FiledEntry) (e : FiledEntry) (x y z : S) → OperationsLead Does es x y → Does e.operation y z → OperationsLead Does (es ++ e ∷ []) x z
  leads_more [] e x y z r d = (z, subst (λ (s : S). Does e.operation s z) r d, refl)
  leads_more (f ∷ fs) e x y z r d = (r.0, r.1, leads_more fs e r.0 y z r.2 d)

  -- if operations lead a part from x to y, and one more leads it to z, together they lead it from x
  -- to z.
  pub leads_filed : (es calls : List FiledEntry) (e : FiledEntry) (x y z : S) → calls ≡ es ++ e ∷ [] → OperationsLead Does es x y → Does e.operation y z → OperationsLead Does calls x z
  leads_filed es calls e x y z is r d = subst (λ (l : List FiledEntry). OperationsLead Does l x z) (sym is) (leads_more es e x y z r d)

  pub lead_log : (first_job : ℕ) (es : List FiledEntry) (x y : S) → OperationsLead Does es x y → LeadInOrder Does (log_of first_job es) x y
  lead_log first_job [] x y r = r
  lead_log first_job (e ∷ es) x y r = (r.0, r.1, lead_log first_job es r.0 y r.2)

module _ {S : Type 0} (Steps : FiledEntry → S → S → Type 0) where
  entries_more : (es : List FiledEntry) (e : FiledEntry) (x y z : S) → EntriesLead Steps es x y → Steps e y z → EntriesLead Steps (es ++ e ∷ []) x z
  entries_more [] e x y z r d = (z, subst (λ (s : S). Steps e s z) r d, refl)
  entries_more (f ∷ fs) e x y z r d = (r.0, r.1, entries_more fs e r.0 y z r.2 d)

  -- if entries lead a part from x to y, and one more leads it to z, together they lead it from x
  -- to z.
  pub entries_filed : (es calls : List FiledEntry) (e : FiledEntry) (x y z : S) → calls ≡ es ++ e ∷ [] → EntriesLead Steps es x y → Steps e y z → EntriesLead Steps calls x z
  entries_filed es calls e x y z is r d = subst (λ (l : List FiledEntry). EntriesLead Steps l x z) (sym is) (entries_more es e x y z r d)

  -- if each entry has its operation's effect, the operations lead the part.
  pub operations_lead : (Does : Operation → S → S → Type 0) → ((e : FiledEntry) (x y : S) → Steps e x y → Does e.operation x y) → (es : List FiledEntry) (x y : S) → EntriesLead Steps es x y → OperationsLead Does es x y
  operations_lead Does each [] x y r = r
  operations_lead Does each (e ∷ es) x y r = (r.0, each e x r.0 r.1, operations_lead Does each es r.0 y r.2)

-- the log's operations of the head words.
abbrev of_heads : List FiledEntry → List FiledEntry
of_heads log = filter (λ e. is_words (part_of e.operation)) log

head_more : (first_job : ℕ) (b : Bool) (e : FiledEntry) (es : List FiledEntry) (ws m vs : List ℕ) → WordsDoIf b e.operation ws m → LeadInOrder WordsDo (log_of first_job (of_heads es)) m vs
    → LeadInOrder WordsDo (log_of first_job (if b then e ∷ of_heads es else of_heads es)) ws vs
head_more first_job true e es ws m vs d r = (m, d, r)
head_more first_job false e es ws m vs d r = subst (λ (x : List ℕ). LeadInOrder WordsDo (log_of first_job (of_heads es)) x vs) d r

-- if a log leads the head words from ws to vs, the log's operations of the head words alone do so
-- too.
pub heads_log : (first_job : ℕ) (log : List FiledEntry) (ws vs : List ℕ) → OperationsLead ChangesWords log ws vs → LeadInOrder WordsDo (log_of first_job (filter (λ e. is_words (part_of e.operation)) log)) ws vs
heads_log first_job [] ws vs r = r
heads_log first_job (e ∷ es) ws vs r = head_more first_job (is_words (part_of e.operation)) e es ws r.0 vs r.1 (heads_log first_job es r.0 vs r.2)

pub advances : (now : ℕ) (f g : FrontState) → g ≡ advanced f now → AdvancesTo now f g
unfolding AdvancesTo
advances now f g is = is

pub fires : (now : ℕ) (f g : FrontState) → g ≡ advanced f now → FiresAt now f g
unfolding FiresAt
fires now f g is = is
