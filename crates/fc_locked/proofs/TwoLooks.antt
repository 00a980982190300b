-- A look at a head word finds the word that the raises before it in the order left.
use Rattle.std.specs.Prelude.{None}
use Rattle.std.proofs.Common.{◌≡◌, ◌⊎◌, ℕ, ◌≤◌, Bool, true, false, max, List, [], ◌∷◌, ◌++◌, Some, ap, ◌∙◌, subst, ⊎_elim, inl, inr, refl, arith}
use Rattle.std.specs.Prelude.{if◌then◌else◌}
use Rattle.std.proofs.lemmas.List.{length-replicate}
use Rattle.fc_front.specs.Heads.{first_word, no_words, word_at, word_at_start, word_raised}
use Rattle.fc_calls.specs.Logged.{LooksAt, RaisesWord}
use Rattle.fc_front.specs.declared.policy.Policy.{Policy}
use Rattle.fc_kinds.specs.Meaning.{Program}
use Rattle.fc_verify.specs.Accepted.{Accepts, Judgement}
use Rattle.fc_verify.specs.Judged.{judged}
use Rattle.fc_registry.specs.Restored.{present_if, restored_slot}
use Rattle.fc_store.specs.Stored.{StoredProgram, StoredSlot, StoredSlots}
use Rattle.fc_server.specs.declared.server.Begin.{Begin}
use Rattle.fc_server.specs.States.{ServerState, first_server, server_over}
use Rattle.fc_linear.specs.Operations.{Logged, Operation, is_words, part_of}
use Rattle.fc_filed.specs.declared.entry.FiledEntry.{FiledEntry}
use Rattle.fc_filed.specs.Entries.{ChangesWords, OperationsLead, WordsDoIf, word_entries}
use Rattle.fc_filed.specs.Threads.{greatest_word}
use Rattle.fc_filed.proofs.Known.{kept_by}
use Rattle.fc_locked.specs.declared.closed.ClosedServer.{ClosedServer}
use Rattle.fc_backend.specs.Logs.{TrackedLog}
use Rattle.fc_backend.specs.RightTracks.{filed_in}
use Rattle.fc_locked.specs.OneOrder.{HaveOneOrder}
use Rattle.fc_locked.proofs.TwoDraws.{two_orders}

-- ---- a raise and a look of two threads

-- the calls of the head words alone lead the words as all calls do.
alone_if : (b : Bool) (e : FiledEntry) (rest : List FiledEntry) (ws ms vs : List ℕ) → is_words (part_of e.operation) ≡ b → ChangesWords e.operation ws ms → OperationsLead ChangesWords rest ms vs
    → OperationsLead ChangesWords (if b then e ∷ rest else rest) ws vs
alone_if true e rest ws ms vs is d r = (ms, d, r)
alone_if false e rest ws ms vs is d r =
    let same : ms ≡ ws = subst (λ (c : Bool). WordsDoIf c e.operation ws ms) is d in
    subst (λ (us : List ℕ). OperationsLead ChangesWords rest us vs) same r

alone : (calls : List FiledEntry) (ws vs : List ℕ) → OperationsLead ChangesWords calls ws vs → OperationsLead ChangesWords (word_entries calls) ws vs
alone [] ws vs r = r
alone (e ∷ es) ws vs r = alone_if (is_words (part_of e.operation)) e (word_entries es) ws r.0 vs refl r.1 (alone es r.0 vs r.2)

raise_first : (a : ℕ) (words : List ℕ) (x y : FiledEntry) → x.operation ≡ Logged (RaisesWord 5 3) → y.operation ≡ Logged (LooksAt 5 a) → OperationsLead ChangesWords (x ∷ y ∷ []) no_words words → a ≡ 3
raise_first a words x y is also leads =
    let one : leads.0 ≡ word_raised 5 3 no_words = subst (λ (o : Operation). ChangesWords o no_words leads.0) is leads.1 in
    let rest = leads.2 in
    let two : (a ≡ word_at leads.0 5) × (rest.0 ≡ leads.0) = subst (λ (o : Operation). ChangesWords o leads.0 rest.0) also rest.1 in
    two.0 ∙ ap (λ (ws : List ℕ). word_at ws 5) one

look_first : (a : ℕ) (words : List ℕ) (x y : FiledEntry) → x.operation ≡ Logged (LooksAt 5 a) → OperationsLead ChangesWords (x ∷ y ∷ []) no_words words → a ≡ 0
look_first a words x y is leads =
    let one : (a ≡ word_at no_words 5) × (leads.0 ≡ no_words) = subst (λ (o : Operation). ChangesWords o no_words leads.0) is leads.1 in
    one.0

pub found_word : (begin : Begin) (one other : TrackedLog) (j k a : ℕ) (closed : ClosedServer) → HaveOneOrder (first_server begin) (one ∷ other ∷ []) closed
    → word_entries (filed_in one) ≡ record { who = one.who; job = j; operation = Logged (RaisesWord 5 3); save = None } ∷ []
    → word_entries (filed_in other) ≡ record { who = other.who; job = k; operation = Logged (LooksAt 5 a); save = None } ∷ []
    → (a ≡ 0) ⊎ (a ≡ 3)
found_word begin one other j k a closed h is also =
    let x : FiledEntry = record { who = one.who; job = j; operation = Logged (RaisesWord 5 3); save = None } in
    let y : FiledEntry = record { who = other.who; job = k; operation = Logged (LooksAt 5 a); save = None } in
    let leads = alone h.calls no_words h.words h.heads_led in
    ⊎_elim
    (λ (e : word_entries h.calls ≡ x ∷ y ∷ []). inr (raise_first a h.words x y refl refl (subst (λ (es : List FiledEntry). OperationsLead ChangesWords es no_words h.words) e leads)))
    (λ (e : word_entries h.calls ≡ y ∷ x ∷ []). inl (look_first a h.words y x refl (subst (λ (es : List FiledEntry). OperationsLead ChangesWords es no_words h.words) e leads)))
    (two_orders (λ (e : FiledEntry). is_words (part_of e.operation)) (first_server begin) one other closed x y h is also)

-- ---- a look after a raise

-- a list of calls that leads the words does so in two pieces.
split : (xs ys : List FiledEntry) (ws vs : List ℕ) → OperationsLead ChangesWords (xs ++ ys) ws vs → (ms : List ℕ) × OperationsLead ChangesWords xs ws ms × OperationsLead ChangesWords ys ms vs
split [] ys ws vs r = (ws, refl, r)
split (x ∷ xs) ys ws vs r = let s = split xs ys r.0 vs r.2 in (s.0, (r.0, r.1, s.1), s.2)

pub found_after : (begin : Begin) (logs : List TrackedLog) (closed : ClosedServer) (order : HaveOneOrder (first_server begin) logs closed) (j k who by a : ℕ) (earlier between later : List FiledEntry)
    → order.calls ≡ earlier ++ record { who = who; job = j; operation = Logged (RaisesWord 5 7); save = None } ∷ between ++ record { who = by; job = k; operation = Logged (LooksAt 5 a); save = None } ∷ later
    → 7 ≤ a
found_after begin logs closed order j k who by a earlier between later is =
    let x : FiledEntry = record { who = who; job = j; operation = Logged (RaisesWord 5 7); save = None } in
    let y : FiledEntry = record { who = by; job = k; operation = Logged (LooksAt 5 a); save = None } in
    let leads : OperationsLead ChangesWords (earlier ++ x ∷ between ++ y ∷ later) no_words order.words = subst (λ (es : List FiledEntry). OperationsLead ChangesWords es no_words order.words) is order.heads_led in
    let cut = split (earlier ++ x ∷ between) (y ∷ later) no_words order.words leads in
    let start = split earlier (x ∷ between) no_words cut.0 cut.1 in
    let has = (kept_by 5 earlier no_words start.0 (let size = length-replicate {A = ℕ} 64 0 in omega (arith, size)) start.1).has in
    let raised : max 7 (greatest_word 5 between) ≤ word_at cut.0 5 = (kept_by 5 (x ∷ between) start.0 cut.0 has start.2).knows in
    let found : a ≡ word_at cut.0 5 = cut.2.1.0 in
    omega (arith, raised, found)

-- ---- a look after exactly these calls of the head words

module _ (begin : ServerState) (logs : List TrackedLog) (closed : ClosedServer) (order : HaveOneOrder begin logs closed) where
  -- the look finds slot 5's word of some head words, to which the calls of the head words led.
  found_in : (k by a : ℕ) (earlier later : List FiledEntry) → order.calls ≡ earlier ++ record { who = by; job = k; operation = Logged (LooksAt 5 a); save = None } ∷ later
      → (ws : List ℕ) × OperationsLead ChangesWords (word_entries earlier) begin.words ws × (a ≡ word_at ws 5)
  found_in k by a earlier later is =
      let y : FiledEntry = record { who = by; job = k; operation = Logged (LooksAt 5 a); save = None } in
      let leads : OperationsLead ChangesWords (earlier ++ y ∷ later) begin.words order.words = subst (λ (es : List FiledEntry). OperationsLead ChangesWords es begin.words order.words) is order.heads_led in
      let cut = split earlier (y ∷ later) begin.words order.words leads in
      (cut.0, alone earlier begin.words cut.0 cut.1, cut.2.1.0)

  pub found_first : (k by a : ℕ) (earlier later : List FiledEntry) → order.calls ≡ earlier ++ record { who = by; job = k; operation = Logged (LooksAt 5 a); save = None } ∷ later → word_entries earlier ≡ [] → a ≡ word_at begin.words 5
  found_first k by a earlier later is none =
      let f = found_in k by a earlier later is in
      let same : f.0 ≡ begin.words = subst (λ (es : List FiledEntry). OperationsLead ChangesWords es begin.words f.0) none f.1 in
      f.2 ∙ ap (λ (ws : List ℕ). word_at ws 5) same

pub found_stored : (stored : StoredSlots) (id : ℕ) (policy : Policy) (program : StoredProgram) (accepted : Program) → judged program.image ≡ Accepts accepted
    → stored 5 ≡ record { serial = 5; program = Some program }
    → (logs : List TrackedLog) (closed : ClosedServer) (order : HaveOneOrder (server_over stored id policy) logs closed) (k by a : ℕ) (earlier later : List FiledEntry)
    → order.calls ≡ earlier ++ record { who = by; job = k; operation = Logged (LooksAt 5 a); save = None } ∷ later → word_entries earlier ≡ [] → a ≡ 11
found_stored stored id policy program accepted judges is logs closed order k by a earlier later at none =
    found_first (server_over stored id policy) logs closed order k by a earlier later at none
    ∙ (ap (λ (s : StoredSlot). first_word (restored_slot s)) is ∙ ap (λ (j : Judgement). word_at_start 5 (present_if j program)) judges)

-- ---- the same, if the server begins with empty slots

module _ (begin : Begin) (logs : List TrackedLog) (closed : ClosedServer) (order : HaveOneOrder (first_server begin) logs closed) where
  pub found_before : (k by a : ℕ) (earlier later : List FiledEntry) → order.calls ≡ earlier ++ record { who = by; job = k; operation = Logged (LooksAt 5 a); save = None } ∷ later → word_entries earlier ≡ [] → a ≡ 0
  found_before = found_first (first_server begin) logs closed order

  pub found_other : (j k who by a : ℕ) (earlier later : List FiledEntry) → order.calls ≡ earlier ++ record { who = by; job = k; operation = Logged (LooksAt 5 a); save = None } ∷ later
      → word_entries earlier ≡ record { who = who; job = j; operation = Logged (RaisesWord 6 7); save = None } ∷ [] → a ≡ 0
  found_other j k who by a earlier later is only =
      let f = found_in (first_server begin) logs closed order k by a earlier later is in
      let x : FiledEntry = record { who = who; job = j; operation = Logged (RaisesWord 6 7); save = None } in
      let led : OperationsLead ChangesWords (x ∷ []) no_words f.0 = subst (λ (es : List FiledEntry). OperationsLead ChangesWords es no_words f.0) only f.1 in
      let raised : led.0 ≡ word_raised 6 7 no_words = led.1 in
      f.2 ∙ ap (λ (ws : List ℕ). word_at ws 5) (led.2 ∙ raised)

  pub found_greatest : (i j k one other by a : ℕ) (earlier later : List FiledEntry) → order.calls ≡ earlier ++ record { who = by; job = k; operation = Logged (LooksAt 5 a); save = None } ∷ later
      → word_entries earlier ≡ record { who = one; job = i; operation = Logged (RaisesWord 5 7); save = None } ∷ record { who = other; job = j; operation = Logged (RaisesWord 5 4); save = None } ∷ [] → a ≡ 7
  found_greatest i j k one other by a earlier later is only =
      let f = found_in (first_server begin) logs closed order k by a earlier later is in
      let x : FiledEntry = record { who = one; job = i; operation = Logged (RaisesWord 5 7); save = None } in
      let y : FiledEntry = record { who = other; job = j; operation = Logged (RaisesWord 5 4); save = None } in
      let led : OperationsLead ChangesWords (x ∷ y ∷ []) no_words f.0 = subst (λ (es : List FiledEntry). OperationsLead ChangesWords es no_words f.0) only f.1 in
      let first : led.0 ≡ word_raised 5 7 no_words = led.1 in
      let last : led.2.0 ≡ word_raised 5 4 led.0 = led.2.1 in
      f.2 ∙ ap (λ (ws : List ℕ). word_at ws 5) (led.2.2 ∙ (last ∙ ap (λ (ws : List ℕ). word_raised 5 4 ws) first))
