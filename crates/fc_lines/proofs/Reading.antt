-- A text has its three fields in one way only, so the fields decide whether it is a line.
use Rattle.std.proofs.Common.{◌≡◌, ◌≢◌, ℕ, ◌<◌, ◌^◌, List, [], ◌∷◌, ◌++◌, Ok, refl, sym, ◌∙◌, ap, subst, arith}
use Rattle.std.specs.Str.Parse.{AllDigits}
use Rattle.std.specs.Char.{digit_value}
use Rattle.std.proofs.lemmas.List.Elements.{All-head, All-tail, All-nil, All-cons}
use Rattle.std.proofs.lemmas.Str.Parse.{digit_from_value}
use Rattle.std.specs.Str.{IsUtf8}
use Rattle.std.proofs.lemmas.Str.{IsUtf8-from_ascii}
use Rattle.std.proofs.lemmas.Fmt.{IsAscii-from_digits}
use Rattle.hex.specs.Hex.{decode_of, decode_sized}
use Rattle.fc_lines.specs.Fields.{space, dash, device, IsUnspaced, IsNumber, IsNoNumber, AreFields, HasNoFields}
use Rattle.fc_lines.specs.Lines.{IsDelivery, IsDevice, IsTick, IsLine, IsNoLine}
use Rattle.fc_lines.specs.declared.line.Line.{Line}
use Rattle.fc_lines.specs.declared.line.Line.TheVariants.{Deliver, Device, Tick}

-- two splits of a text have the same parts.
pub record AreSame (a b a' b' : List ℕ) : Type 0 where
  pub first : a' ≡ a
  pub rest : b' ≡ b

-- a text has only one split at its first space.
pub cut_once : (a b a' b' : List ℕ) → IsUnspaced a → IsUnspaced a' → a ++ (space ∷ b) ≡ a' ++ (space ∷ b') → AreSame a b a' b'
cut_once [] b [] b' u u' e = record { first = refl; rest = cc e }
cut_once [] b (x ∷ a') b' u u' e = absurd (All-head (λ y. y ≢ space) x a' u' (cc e))
cut_once (x ∷ a) b [] b' u u' e = absurd (All-head (λ y. y ≢ space) x a u (cc e))
cut_once (x ∷ a) b (y ∷ a') b' u u' e =
    let same = cut_once a b a' b' (All-tail (λ y. y ≢ space) x a u) (All-tail (λ y. y ≢ space) y a' u') (cc e) in
    let head : y ≡ x = cc e in
    record { first = cc (head, same.first); rest = same.rest }

-- a text that consists of two parts with a space between has a space.
pub uncut : (a b : List ℕ) → IsUnspaced (a ++ (space ∷ b)) → ⊥
uncut [] b u = All-head (λ y. y ≢ space) space b u refl
uncut (x ∷ a) b u = uncut a b (All-tail (λ y. y ≢ space) x (a ++ (space ∷ b)) u)

-- a text without a space has fewer than three fields.
pub none_uncut : (text : List ℕ) → IsUnspaced text → HasNoFields text
none_uncut text u = record { none = λ a b c f. uncut a (b ++ (space ∷ c)) (subst IsUnspaced f.text_is u) }

-- a text with one space has fewer than three fields.
pub rest_uncut : (text first rest : List ℕ) → text ≡ first ++ (space ∷ rest) → IsUnspaced first → IsUnspaced rest → HasNoFields text
rest_uncut text first rest e u v = record {
  none = λ a b c f.
      let same = cut_once first rest a (b ++ (space ∷ c)) u f.first_unspaced (sym e ∙ f.text_is) in
      uncut b c (subst IsUnspaced (sym same.rest) v);
}

-- two lists of three fields are the same.
pub record Fit (first second third first' second' third' : List ℕ) : Type 0 where
  pub first_is : first' ≡ first
  pub second_is : second' ≡ second
  pub third_is : third' ≡ third

-- a text has only one list of three fields.
pub fields_fit : (text a b c a' b' c' : List ℕ) → AreFields text a b c → AreFields text a' b' c' → Fit a b c a' b' c'
fields_fit text a b c a' b' c' f f' =
    let outer = cut_once a (b ++ (space ∷ c)) a' (b' ++ (space ∷ c')) f.first_unspaced f'.first_unspaced (sym f.text_is ∙ f'.text_is) in
    let inner = cut_once b c b' c' f.second_unspaced f'.second_unspaced (sym outer.rest) in
    record { first_is = outer.first; second_is = inner.first; third_is = inner.rest }

digit_no_space : (b : ℕ) → digit_value b < 10 → b ≢ space
digit_no_space b h e = let r = digit_from_value b h in absurd (omega arith)

digits_unspaced : (text : List ℕ) → AllDigits 10 text → IsUnspaced text
digits_unspaced [] h = All-nil (λ y. y ≢ space)
digits_unspaced (x ∷ text) h = All-cons (λ y. y ≢ space) x text (digit_no_space x h.0) (digits_unspaced text h.1)

-- a number has no space.
number_unspaced : (text : List ℕ) (n : ℕ) → IsNumber text n → IsUnspaced text
number_unspaced text n h = digits_unspaced text h.digits.1

dash_unspaced : IsUnspaced dash
dash_unspaced = All-cons (λ y. y ≢ space) 45 [] (λ e. absurd (omega arith)) (All-nil (λ y. y ≢ space))

device_unspaced : IsUnspaced device
device_unspaced = All-cons (λ y. y ≢ space) 100 (101 ∷ 118 ∷ []) (λ e. absurd (omega arith))
    (All-cons (λ y. y ≢ space) 101 (118 ∷ []) (λ e. absurd (omega arith)) (All-cons (λ y. y ≢ space) 118 [] (λ e. absurd (omega arith)) (All-nil (λ y. y ≢ space))))

-- `dev` is no number.
device_no_number : (n : ℕ) → IsNumber device n → ⊥
device_no_number n h = let d = h.digits.1.0 in absurd (omega (arith, d))

delivery_fields : (text : List ℕ) (now peer : ℕ) (bytes : List ℕ) (d : IsDelivery text now peer bytes) → AreFields text d.first d.second d.third
delivery_fields text now peer bytes d = record { text_is = d.text_is; first_unspaced = number_unspaced _ _ d.now_is; second_unspaced = number_unspaced _ _ d.peer_is }

tick_fields : (text : List ℕ) (now : ℕ) (t : IsTick text now) → AreFields text t.first dash dash
tick_fields text now t = record { text_is = t.text_is; first_unspaced = number_unspaced _ _ t.now_is; second_unspaced = dash_unspaced }

device_fields : (text : List ℕ) (now : ℕ) (readings : List ℕ) (d : IsDevice text now readings) → AreFields text d.first device d.third
device_fields text now readings d = record { text_is = d.text_is; first_unspaced = number_unspaced _ _ d.now_is; second_unspaced = device_unspaced }

-- a text with fewer than three fields is no line.
pub no_fields : (text : List ℕ) → HasNoFields text → IsNoLine text
no_fields text h = record { none = go }
  where
    go : (line : Line) → IsLine text line → ⊥
    go (Deliver now peer bytes) d = h.none _ _ _ (delivery_fields _ _ _ _ d)
    go (Tick now) t = h.none _ _ _ (tick_fields _ _ t)
    go (Device now readings) d = h.none _ _ _ (device_fields _ _ _ d)

-- a text whose first field isn't a number below 2^64 is no line.
pub no_time : (text a b c : List ℕ) → AreFields text a b c → IsNoNumber a (2 ^ 64) → IsNoLine text
no_time text a b c f h = record { none = go }
  where
    go : (line : Line) → IsLine text line → ⊥
    go (Deliver now peer bytes) d =
        h.none now d.now_fits (subst (λ x. IsNumber x now) (fields_fit text a b c _ _ _ f (delivery_fields _ _ _ _ d)).first_is d.now_is)
    go (Tick now) t =
        h.none now t.now_fits (subst (λ x. IsNumber x now) (fields_fit text a b c _ _ _ f (tick_fields _ _ t)).first_is t.now_is)
    go (Device now readings) d =
        h.none now d.now_fits (subst (λ x. IsNumber x now) (fields_fit text a b c _ _ _ f (device_fields _ _ _ d)).first_is d.now_is)

-- let the second field not be `dev`, and the last two fields not both be dashes. If the second
-- field is no number below 256, the text is no line.
pub no_peer : (text a b c : List ℕ) → AreFields text a b c → ((b ≡ dash) × (c ≡ dash) → ⊥) → (b ≡ device → ⊥) → IsNoNumber b 256 → IsNoLine text
no_peer text a b c f other none h = record { none = go }
  where
    go : (line : Line) → IsLine text line → ⊥
    go (Deliver now peer bytes) d =
        h.none peer d.peer_fits (subst (λ x. IsNumber x peer) (fields_fit text a b c _ _ _ f (delivery_fields _ _ _ _ d)).second_is d.peer_is)
    go (Tick now) t =
        let fit = fields_fit text a b c _ _ _ f (tick_fields _ _ t) in
        other (sym fit.second_is, sym fit.third_is)
    go (Device now readings) d = none (sym (fields_fit text a b c _ _ _ f (device_fields _ _ _ d)).second_is)

-- let the second field not be `dev`, and the last two fields not both be dashes. If the third field
-- isn't an even number of hex digits, the text is no line.
pub no_bytes : (text a b c : List ℕ) → AreFields text a b c → ((b ≡ dash) × (c ≡ dash) → ⊥) → (b ≡ device → ⊥) → ((bytes : List ℕ) → decode_of c ≡ Ok bytes → ⊥) → IsNoLine text
no_bytes text a b c f other none h = record { none = go }
  where
    go : (line : Line) → IsLine text line → ⊥
    go (Deliver now peer bytes) d =
        h bytes.items (ap decode_of (sym (fields_fit text a b c _ _ _ f (delivery_fields _ _ _ _ d)).third_is) ∙ d.bytes_are)
    go (Tick now) t =
        let fit = fields_fit text a b c _ _ _ f (tick_fields _ _ t) in
        other (sym fit.second_is, sym fit.third_is)
    go (Device now readings) d = none (sym (fields_fit text a b c _ _ _ f (device_fields _ _ _ d)).second_is)

-- a text whose second field is `dev`, and whose third isn't 128 hex digits, is no line.
pub no_readings : (text a b c : List ℕ) → AreFields text a b c → b ≡ device → ((readings : List ℕ) → decode_sized c 64 ≡ Ok readings → ⊥) → IsNoLine text
no_readings text a b c f is h = record { none = go }
  where
    go : (line : Line) → IsLine text line → ⊥
    go (Deliver now peer bytes) d =
        device_no_number peer (subst (λ x. IsNumber x peer) ((fields_fit text a b c _ _ _ f (delivery_fields _ _ _ _ d)).second_is ∙ is) d.peer_is)
    go (Tick now) t = let e = (fields_fit text a b c _ _ _ f (tick_fields _ _ t)).second_is ∙ is in absurd (let n = e in cc)
    go (Device now readings) d =
        h readings (ap (λ x. decode_sized x 64) (sym (fields_fit text a b c _ _ _ f (device_fields _ _ _ d)).third_is) ∙ d.readings_are)

-- bytes that aren't UTF-8 are no number.
pub no_text : (text : List ℕ) (limit : ℕ) → (IsUtf8 text → ⊥) → IsNoNumber text limit
no_text text limit h = record { none = λ n below number. h (IsUtf8-from_ascii text (IsAscii-from_digits text number.digits.1)) }
