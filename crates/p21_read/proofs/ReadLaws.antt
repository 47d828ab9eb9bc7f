-- A value and an instance alone: what is read is spelled so, and what is spelled so is read.
use Rattle.std.proofs.Common.{◌≡◌, ℕ, List, [], None, Result, Ok, Err, refl, sym, ap, ◌∙◌, subst}
use Rattle.std.specs.Prelude.{IfOk}
use Rattle.ifc_base.specs.declared.memory.Refusal.{Refusal}
use Rattle.ifc_base.specs.declared.value.Value.{Value}
use Rattle.ifc_base.specs.declared.value.Instance.{Instance}
use Rattle.reading.specs.declared.fault.Fault.{Fault}
use Rattle.reading.specs.Codes.{codes_of}
use Rattle.reading.specs.Lines.{with_line, Answers}
use Rattle.reading.specs.Reading.{Text}
use Rattle.reading.proofs.Lines.{with_line_ok}
use Rattle.reading.proofs.Tools.{bound, ok_is}
use Rattle.p21_read.specs.declared.fault.P21Cause.{P21Cause}
use Rattle.p21_read.specs.declared.token.Token.{Token}
use Rattle.p21_read.specs.declared.token.Token.TheVariants as k
use Rattle.p21_read.specs.Tokens.{token}
use Rattle.p21_read.specs.Values.{Found, value, max_depth, whole_end, whole_value}
use Rattle.p21_read.specs.Instances.{Row, row_by, row, instance_of, alone, whole_instance}
use Rattle.p21_read.specs.Readings.{value_reading, instance_reading}
use Rattle.p21_read.specs.TokenGrammar.{IsToken, Next}
use Rattle.p21_read.specs.Grammar.{Spells, IsInstance, ReadsValue, ReadsInstance}
use Rattle.p21_read.proofs.TokenLaws.{token_sound, token_complete}
use Rattle.p21_read.proofs.ValueLaws.{value_sound}
use Rattle.p21_read.proofs.ValueComplete.{value_complete}
use Rattle.p21_read.proofs.InstanceLaws.{in_range_is, instance_sound, row_complete}

end_is : {t u : Text} → Next t k.End u → Next t k.End []
end_is (Next.next t s _ u passed IsToken.end) = Next.next t s k.End [] passed IsToken.end

-- ---- values

end_sound : (f : Found) (w : Token) (at t u : Text) (y : Value) → Next t w u → whole_end f w at ≡ Ok y → Next t k.End [] × (f.late ≡ None) × (f.value ≡ y)
end_sound f k.End at t u y n e = let r = in_range_is f.value f.late y e in (end_is n, r.0, r.1)
end_sound f other at t u y n e = absurd cc

whole_sound : (t : Text) (y : Value) → whole_value t ≡ Ok y → (rest : Text) × Spells max_depth t y rest × Next rest k.End []
unfolding whole_value
whole_sound t y e =
    let b = bound {r = token t} e in
    let f = bound {r = value max_depth None b.0.0 b.0.1} b.2 in
    let q = bound {r = token f.0.1} f.2 in
    let end = end_sound f.0.0 q.0.0.token q.0.0.at f.0.1 q.0.1 y (token_sound f.0.1 q.0.0 q.0.1 q.1) q.2 in
    let spelled = value_sound max_depth None b.0.0 t b.0.1 f.0.0 f.0.1 (token_sound t b.0.0 b.0.1 b.1) f.1 end.1 in
    (f.0.1, subst (λ (x : Value). Spells max_depth t x f.0.1) end.2 spelled, end.0)

whole_complete : (t : Text) (y : Value) (rest : Text) → Spells max_depth t y rest → Next rest k.End [] → whole_value t ≡ Ok y
unfolding whole_value
whole_complete t y rest h n =
    let b = bound {r = token t} (value_complete None h) in
    let e = token_complete n in
    rw (b.1, b.2, e.1) refl

pub value_reading_sound : (bytes : List ℕ) (y : Value) → value_reading bytes ≡ Ok y → ReadsValue bytes y
unfolding value_reading
value_reading_sound bytes y e =
    let w = whole_sound (codes_of bytes) y (with_line_ok (codes_of bytes) (whole_value (codes_of bytes)) y e) in
    record { rest = w.0; value = w.1; end = w.2 }

pub value_reading_complete : (bytes : List ℕ) (y : Value) → ReadsValue bytes y → value_reading bytes ≡ Ok y
unfolding value_reading
value_reading_complete bytes y r = ap (with_line (codes_of bytes)) (whole_complete (codes_of bytes) y r.rest r.value r.end)

pub one_value_reading : (bytes : List ℕ) (x y : Value) → ReadsValue bytes x → ReadsValue bytes y → x ≡ y
one_value_reading bytes x y p q = ok_is {E = Fault P21Cause} x y (sym (value_reading_complete bytes x p) ∙ value_reading_complete bytes y q)

pub value_found : (bytes : List ℕ) (r : Result Value (Refusal (Fault P21Cause))) → Answers (λ x. x) r (value_reading bytes) → IfOk r (λ x. ReadsValue bytes x)
value_found bytes (Ok x) given = value_reading_sound bytes x given
value_found bytes (Err e) given = tt

-- ---- instances

alone_sound : (r : Row) (w : Token) (at t u : Text) (y : Instance) → Next t w u → alone r w at ≡ Ok y → Next t k.End [] × (instance_of r ≡ Ok y)
alone_sound r k.End at t u y n e = (end_is n, e)
alone_sound r other at t u y n e = absurd cc

abbrev Numbered : Type 0
Numbered = Row × Text

row_by_is : (w : Token) (at s : Text) (x : Numbered) → row_by w at s ≡ Ok x → (n : ℕ) × (w ≡ k.Id n) × (row n at s ≡ Ok x)
row_by_is (k.Id n) at s x e = (n, refl, e)
row_by_is other at s x e = absurd cc

whole_instance_sound : (t : Text) (y : Instance) → whole_instance t ≡ Ok y → (rest : Text) × IsInstance t y rest × Next rest k.End []
unfolding whole_instance
whole_instance_sound t y e =
    let b = bound {r = token t} e in
    let r = bound {r = row_by b.0.0.token b.0.0.at b.0.1} b.2 in
    let q = bound {r = token r.0.1} r.2 in
    let end = alone_sound r.0.0 q.0.0.token q.0.0.at r.0.1 q.0.1 y (token_sound r.0.1 q.0.0 q.0.1 q.1) q.2 in
    let p = row_by_is b.0.0.token b.0.0.at b.0.1 r.0 r.1 in
    let number = subst (λ (w : Token). Next t w b.0.1) p.1 (token_sound t b.0.0 b.0.1 b.1) in
    (r.0.1, instance_sound p.0 b.0.0.at t b.0.1 r.0 y number p.2 end.1, end.0)

whole_instance_complete : (t : Text) (y : Instance) (rest : Text) → IsInstance t y rest → Next rest k.End [] → whole_instance t ≡ Ok y
unfolding whole_instance
whole_instance_complete t y rest i n =
    let r = row_complete i in
    let e = token_complete n in
    rw (r.number, r.read, e.1) r.made

pub instance_reading_sound : (bytes : List ℕ) (y : Instance) → instance_reading bytes ≡ Ok y → ReadsInstance bytes y
unfolding instance_reading
instance_reading_sound bytes y e =
    let w = whole_instance_sound (codes_of bytes) y (with_line_ok (codes_of bytes) (whole_instance (codes_of bytes)) y e) in
    record { rest = w.0; instance = w.1; end = w.2 }

pub instance_reading_complete : (bytes : List ℕ) (y : Instance) → ReadsInstance bytes y → instance_reading bytes ≡ Ok y
unfolding instance_reading
instance_reading_complete bytes y r = ap (with_line (codes_of bytes)) (whole_instance_complete (codes_of bytes) y r.rest r.instance r.end)

pub one_instance_reading : (bytes : List ℕ) (x y : Instance) → ReadsInstance bytes x → ReadsInstance bytes y → x ≡ y
one_instance_reading bytes x y p q = ok_is {E = Fault P21Cause} x y (sym (instance_reading_complete bytes x p) ∙ instance_reading_complete bytes y q)

pub instance_found : (bytes : List ℕ) (r : Result Instance (Refusal (Fault P21Cause))) → Answers (λ x. x) r (instance_reading bytes) → IfOk r (λ x. ReadsInstance bytes x)
instance_found bytes (Ok x) given = instance_reading_sound bytes x given
instance_found bytes (Err e) given = tt
