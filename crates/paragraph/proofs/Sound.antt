-- What a shaped paragraph keeps through every call, and that the law follows from it.
use Rattle.std.proofs.Common.{◌≡◌, ℕ, ◌-◌, ◌+◌, ◌≤◌, ◌<◌, Bool, true, false, cond, ◌&&◌, ◌||◌, ◌==◌, List, ◌++◌, map, length, replicate, take, drop, nat_le, nat_lt, slice_range, None, refl, sym, ap, ◌∙◌, subst, subst₂, arith}
use Rattle.std.specs.List.{AllByRecursion, prefix_len}
use Rattle.std.proofs.ByRecursion.{All-append}
use Rattle.std.proofs.lemmas.Bool.{and_parts, leb-true, leb-false, ltb-false, or_parts}
use Rattle.std.proofs.lemmas.List.{drop_at, length-append, length-drop, length-map, length-replicate, length-take, take_at}
use Rattle.model.specs.declared.Glyph.{Glyph}
use Rattle.model.specs.Laws.{Cuts, Free, pieces, raise, run_width}
use Rattle.model.specs.Limits.{sizes_fit}
use Rattle.model.specs.Shaping.{Outcome, Shaped as ShapedText, Shapes, refused, shaped}
use Rattle.model.proofs.Lines.{line-alone}
use Rattle.model.proofs.Outcomes.{limits-hold}
use Rattle.model.proofs.Pieces.{cut-in-pieces}
use Rattle.model.proofs.Sums.{sums-of-pieces}
use Rattle.gsub.specs.Meaning.{gsub_means}
use Rattle.pick.specs.Lines.{stretch, before as lies_before, within as lies_within}
use Rattle.paragraph.specs.declared.shaped.Shaped.{Shaped}
use Rattle.paragraph.specs.declared.slip.Slip.{Slip}
use Rattle.paragraph.specs.Calls.{Answer, Call, Comes, Inputs, Line, Memory, Paragraph, by_first, clear, denied, done, filled, first_refusal, gives, is_blank, is_shaped, kept, left_by, line, owes, paid, pay, returned, shape, unpaid, waive}
use Rattle.paragraph.specs.Step.{Pays, Step, after, characters, foreign, free, glyphs_of, line_answer, marks_of, owing, pay_answer, pay_leaves, records, shape_leaves, too_small, wrong_ends}
use Rattle.paragraph.specs.Law.{Course, CuttingLaw, Gets, History, Outlasts, Right, Since, given_out, made, next, onward}
use Rattle.paragraph.proofs.Alone.{accepted-from, accepted-parts, each-alone, none-less, none-parts, pieces-shorter, range-shorter, shaping_inputs}
use Rattle.paragraph.proofs.Kept.{count-is, first-is, free-is, middle-is, range-is}

-- the text was accepted, and the memory has what it was shaped to
pub record Sound (k : Shaped) (s : Course) : Type 0 where
  pub w : ShapedText
  pub z : List Glyph
  pub v : List ℕ
  pub ready : first_refusal s.inputs s.inputs.limit s.inputs.text s.memory ≡ None
  pub shapes : Shapes (shaping_inputs s.inputs s.memory) s.inputs.text (shaped w)
  pub run : s.memory.run ≡ w.run ++ z
  pub marks : s.memory.marks ≡ w.marks ++ v
  pub size : k.length ≡ length s.inputs.text
  pub count : k.count ≡ length w.run
  pub hits : k.hits ≡ w.hits
  pub limit : k.limit ≡ s.inputs.limit
  pub unwritten : s.memory ≡ s.filled
  pub right : AllByRecursion (Right s.inputs s.memory) s.lines

abbrev pub Holds : (p : Paragraph) → Since p → Type 0
Holds (is_blank n) s = Unit {0}
Holds (is_shaped k) s = Sound k s

long-marks : (k : Shaped) (s : Course) (h : Sound k s) → length h.w.marks ≡ k.length
long-marks k s h = (limits-hold (shaping_inputs s.inputs s.memory) s.inputs.text h.w h.shapes).2 ∙ sym h.size

glyphs-are : (k : Shaped) (s : Course) (h : Sound k s) → glyphs_of k s.memory ≡ h.w.run
glyphs-are k s h = ap (take k.count) h.run ∙ take_at h.w.run h.z k.count (sym h.count)

marks-are : (k : Shaped) (s : Course) (h : Sound k s) → marks_of k s.memory ≡ h.w.marks
marks-are k s h = ap (take k.length) h.marks ∙ take_at h.w.marks h.v k.length (long-marks k s h)

-- LINE
module _ (k : Shaped) (s : Course) (h : Sound k s) (a b : ℕ) (before : a < b) (within : b ≤ k.length) (fa : free k s.memory a ≡ true) (fb : free k s.memory b ≡ true) where
  abbrev x : Inputs
  x = s.inputs

  abbrev m : Memory
  m = s.memory

  free-place : (c : ℕ) → free k m c ≡ true → Free h.w.marks c
  free-place c f = free-is k.length c h.w.marks m.marks h.v h.marks (long-marks k s h) f

  rise : a ≤ b
  rise = omega (arith, before)

  kept-right : Right x m (kept a b (records k m a b).first (records k m a b).count)
  kept-right =
      let l = line-alone (shaping_inputs x m) x.text h.w a b h.shapes rise (omega (arith, within, h.size)) (free-place a fa) (free-place b fb) in
      let gs : glyphs_of k m ≡ l.0 ++ (map (raise a) l.1.run ++ l.2) = glyphs-are k s h ∙ l.4 in
      let first : (records k m a b).first ≡ length l.0 = ap (λ q. (stretch (λ g. g.cluster) a b q).first) gs ∙ first-is a b l.0 l.1.run l.2 l.6 l.7 l.8 rise in
      let count : (records k m a b).count ≡ length l.1.run =
      ap (λ q. prefix_len (lies_within (λ g. g.cluster) a b) (drop (prefix_len (lies_before (λ g. g.cluster) a) q) q)) gs
      ∙ ap (λ n. prefix_len (lies_within (λ g. g.cluster) a b) (drop n (l.0 ++ (map (raise a) l.1.run ++ l.2)))) (first-is a b l.0 l.1.run l.2 l.6 l.7 l.8 rise)
      ∙ ap (prefix_len (lies_within (λ g. g.cluster) a b)) (drop_at l.0 (map (raise a) l.1.run ++ l.2) (length l.0) refl)
      ∙ count-is a b l.0 l.1.run l.2 l.6 l.7 l.8 rise in
      let run : m.run ≡ (l.0 ++ (map (raise a) l.1.run ++ l.2)) ++ h.z = h.run ∙ ap (λ q. q ++ h.z) l.4 in
      let long : length (map (raise a) l.1.run) ≡ length l.1.run = length-map l.1.run (raise a) in (
        l.1,
        accepted-from x x.limit (slice_range x.text a b) m (shaped l.1) (none-less x x.limit x.text (slice_range x.text a b) m m (range-shorter x.text a b) refl refl h.ready) l.3,
        count,
        ap (λ q. take (records k m a b).count (drop (records k m a b).first q)) run ∙ ap (λ n. take (records k m a b).count (drop n ((l.0 ++ (map (raise a) l.1.run ++ l.2)) ++ h.z))) first
            ∙ ap (λ n. take n (drop (length l.0) ((l.0 ++ (map (raise a) l.1.run ++ l.2)) ++ h.z))) (count ∙ sym long) ∙ middle-is l.0 (map (raise a) l.1.run) l.2 h.z,
        ap (λ q. slice_range q a b) h.marks ∙ range-is h.w.marks h.v a b rise (omega (arith, within, long-marks k s h)) ∙ sym l.5,
      )

line-right : (k : Shaped) (s : Course) (h : Sound k s) (a b : ℕ) → AllByRecursion (Right s.inputs s.memory) (given_out (line_answer k s.memory a b))
line-right k s h a b = by (nat_le b a) (nat_lt k.length b) (too_small k s.memory) (free k s.memory a) (free k s.memory b) (k.owed == 65535) refl refl refl refl
  where
    by : (t₁ t₂ t₃ t₄ t₅ t₆ : Bool) → nat_le b a ≡ t₁ → nat_lt k.length b ≡ t₂ → free k s.memory a ≡ t₄ → free k s.memory b ≡ t₅
        → AllByRecursion (Right s.inputs s.memory) (given_out (cond (t₁ || t₂) (denied 9) (cond t₃ (denied 6) (cond (t₄ && t₅) (gives (kept a b (records k s.memory a b).first (records k s.memory a b).count)) (cond t₆ (denied 11) (owes (record { number = k.number; first = a; last = b })))))))
    by true t₂ t₃ t₄ t₅ t₆ e₁ e₂ e₄ e₅ = tt
    by false true t₃ t₄ t₅ t₆ e₁ e₂ e₄ e₅ = tt
    by false false true t₄ t₅ t₆ e₁ e₂ e₄ e₅ = tt
    by false false false true true t₆ e₁ e₂ e₄ e₅ = (kept-right k s h a b (leb-false b a e₁) (ltb-false k.length b e₂) e₄ e₅, tt)
    by false false false true false true e₁ e₂ e₄ e₅ = tt
    by false false false true false false e₁ e₂ e₄ e₅ = tt
    by false false false false t₅ true e₁ e₂ e₄ e₅ = tt
    by false false false false t₅ false e₁ e₂ e₄ e₅ = tt

-- PAY
sizes-marks : (t r k l : ℕ) → sizes_fit t r k l ≡ true → t ≤ k
sizes-marks t r k l e = leb-true t k (and_parts (nat_le t 65535 && nat_le r 65535 && nat_le l 1000000) (nat_le t k) e).1

module _ (x : Inputs) (limit : ℕ) (text : List ℕ) (own : Memory) (w : ShapedText) (none : first_refusal x limit text own ≡ None) (shapes : by_first x limit text own None (shaped w)) where
  fits : (length w.run ≤ length own.run) × (length w.marks ≡ length text)
  fits = let l = limits-hold (record { font = x.source.font; table = gsub_means x.table; plan = x.plan; limit = limit; room = length own.run }) text w shapes in (l.1, l.2)

  enough : length text ≤ length own.marks
  enough = sizes-marks (length text) (length own.run) (length own.marks) limit (none-parts x limit text own none).0

  pub left-run : length (filled (shaped w) own).run ≡ length own.run
  left-run = simp (length-append, length-replicate) (omega (arith, fits.0))

  pub left-marks : length (filled (shaped w) own).marks ≡ length own.marks
  left-marks = simp (length-append, length-replicate) (omega (arith, fits.1, enough))

  pub alone-there : Comes x limit text (filled (shaped w) own) (shaped w)
  alone-there =
      accepted-from x limit text (filled (shaped w) own) (shaped w) (none-less x limit text text own (filled (shaped w) own) (let r : length text ≤ length text = omega arith in r) left-run left-marks none)
      (subst (λ n. Shapes (record { font = x.source.font; table = gsub_means x.table; plan = x.plan; limit = limit; room = n }) text (shaped w)) (sym left-run) shapes)

paid-right : (k : Shaped) (s : Course) (h : Sound k s) (q : Slip) (own : Memory) (o : Outcome) → Pays s.inputs k q own o → AllByRecursion (Right s.inputs s.memory) (given_out (pay_answer q (pay_leaves s.inputs k q own o) o))
paid-right k s h q own (refused n) p = tt
paid-right k s h q own (shaped w) p = by (foreign k q) (wrong_ends s.inputs q) refl p
  where
    by : (t u : Bool) → wrong_ends s.inputs q ≡ u → cond t (shaped w ≡ refused 10) (cond u (shaped w ≡ refused 9) (Comes s.inputs k.limit (characters s.inputs q) own (shaped w)))
        → Right s.inputs s.memory (paid q.first q.last (length w.run) w.hits (cond t own (cond u own (left_by (first_refusal s.inputs k.limit (characters s.inputs q) own) (shaped w) own)))) × Unit {0}
    by true u f p = absurd cc
    by false true f p = absurd cc
    by false false f p =
        let parts = accepted-parts s.inputs k.limit (characters s.inputs q) own w p in
        let order = or_parts (nat_le q.last q.first) (nat_lt (length s.inputs.text) q.last) f in
        let rise : q.first < q.last = leb-false q.last q.first order.0 in
        let within : q.last ≤ length s.inputs.text = ltb-false (length s.inputs.text) q.last order.1 in
        let size : length w.marks ≡ q.last - q.first = (fits s.inputs k.limit (characters s.inputs q) own w parts.0 parts.1).1 ∙ simp (length-take, length-drop) (omega (arith, rise, within)) in
        let there = alone-there s.inputs k.limit (characters s.inputs q) own w parts.0 parts.1 in (
          subst (λ (m : Memory). Right s.inputs s.memory (paid q.first q.last (length w.run) w.hits m)) (sym (ap (λ g. left_by g (shaped w) own) parts.0)) (
            w,
            subst (λ n. Comes s.inputs n (characters s.inputs q) (filled (shaped w) own) (shaped w)) h.limit there,
            refl,
            take_at w.run (replicate (length own.run - length w.run) (record { glyph = 0; cluster = 0 })) (length w.run) refl,
            take_at w.marks (replicate (length own.marks - length w.marks) 0) (q.last - q.first) size,
            refl,
          ),
          tt,
        )

-- A CALL THAT LEAVES THE PARAGRAPH SHAPED
go-on : (k : Shaped) (s : Course) (h : Sound k s) (o : ℕ) (m : Memory) (ls : List Line) → m ≡ s.memory → AllByRecursion (Right s.inputs s.memory) ls
    → Sound (owing k o) (record { inputs = s.inputs; filled = s.filled; memory = m; lines = ls ++ s.lines })
go-on k s h o m ls e r =
    subst (λ u. Sound (owing k o) (record { inputs = s.inputs; filled = s.filled; memory = u; lines = ls ++ s.lines })) (sym e) (record {
      w = h.w;
      z = h.z;
      v = h.v;
      ready = h.ready;
      shapes = h.shapes;
      run = h.run;
      marks = h.marks;
      size = h.size;
      count = h.count;
      hits = h.hits;
      limit = h.limit;
      unwritten = h.unwritten;
      right = All-append _ ls s.lines r h.right;
    })

after-is : (k : Shaped) (r : Answer) → (o : ℕ) × (after k r ≡ owing k o)
after-is k done = (k.owed - 1, refl)
after-is k (gives (kept a b first count)) = (k.owed, refl)
after-is k (gives (paid a b count hits own)) = (k.owed - 1, refl)
after-is k (owes q) = (k.owed + 1, refl)
after-is k (denied n) = (k.owed, refl)
after-is k (returned n q) = (k.owed, refl)
after-is k (unpaid n q own) = (k.owed, refl)

stays : (k : Shaped) (s : Course) (h : Sound k s) (x : Inputs) (r : Answer) (p : Paragraph) (m : Memory) → p ≡ is_shaped (after k r) → m ≡ s.memory → AllByRecursion (Right s.inputs s.memory) (given_out r) → Holds p (onward (is_shaped k) s x r p m)
stays k s h x r p m e f g =
    let a = after-is k r in
    subst (λ u. Holds u (onward (is_shaped k) s x r u m)) (sym (e ∙ ap is_shaped a.1)) (go-on k s h a.0 m (given_out r) f g)

waive-right : (x : Inputs) (m : Memory) (q : Slip) (t : Bool) → AllByRecursion (Right x m) (given_out (cond t (returned 10 q) done))
waive-right x m q true = tt
waive-right x m q false = tt

clears : (k : Shaped) (s : Course) (h : Sound k s) (x : Inputs) (r : Answer) (p : Paragraph) (m : Memory) (t : Bool) → r ≡ cond t (denied 11) done → p ≡ cond t (is_shaped k) (is_blank k.number) → m ≡ s.memory → Holds p (onward (is_shaped k) s x r p m)
clears k s h x r p m true e f g = subst (λ u. Holds p (onward (is_shaped k) s x u p m)) (sym e) (stays k s h x (denied 11) p m f g tt)
clears k s h x r p m false e f g = subst (λ u. Holds u (onward (is_shaped k) s x r u m)) (sym f) tt

shape-holds : (n : ℕ) (x : Inputs) (m : Memory) (r : Answer) (p : Paragraph) (m' : Memory) (o : Outcome) → Comes x x.limit x.text m o → p ≡ shape_leaves n x o → m' ≡ left_by (first_refusal x x.limit x.text m) o m → Holds p (onward (is_blank n) tt x r p m')
shape-holds n x m r p m' (refused j) c e f = subst (λ u. Holds u (onward (is_blank n) tt x r u m')) (sym e) tt
shape-holds n x m r p m' (shaped w) c e f =
    let parts = accepted-parts x x.limit x.text m w c in
    let left : m' ≡ filled (shaped w) m = f ∙ ap (λ g. left_by g (shaped w) m) parts.0 in
    let m″ : Memory = filled (shaped w) m in
    subst₂ (λ u q. Holds u (onward (is_blank n) tt x r u q)) (sym e) (sym left) (record {
      w = w;
      z = replicate (length m.run - length w.run) (record { glyph = 0; cluster = 0 });
      v = replicate (length m.marks - length w.marks) 0;
      ready = none-less x x.limit x.text x.text m m″ (let r : length x.text ≤ length x.text = omega arith in r) (left-run x x.limit x.text m w parts.0 parts.1) (left-marks x x.limit x.text m w parts.0 parts.1) parts.0;
      shapes = subst (λ u. Shapes (record { font = x.source.font; table = gsub_means x.table; plan = x.plan; limit = x.limit; room = u }) x.text (shaped w)) (sym (left-run x x.limit x.text m w parts.0 parts.1)) parts.1;
      run = refl;
      marks = refl;
      size = refl;
      count = refl;
      hits = refl;
      limit = refl;
      unwritten = refl;
      right = tt;
    })

step-holds : (p : Paragraph) (s : Since p) (x : Inputs) (m : Memory) (c : Call) (r : Answer) (p' : Paragraph) (m' : Memory) → Holds p s → Gets p s x m → Step x m p c r p' m' → Holds p' (onward p s x r p' m')
step-holds (is_blank n) s x m shape r p' m' h g t = shape-holds n x m r p' m' t.0 t.1 t.3 t.4
step-holds (is_blank n) s x m (line a b) r p' m' h g t = absurd t
step-holds (is_blank n) s x m (pay q own) r p' m' h g t = absurd t
step-holds (is_blank n) s x m (waive q) r p' m' h g t = absurd t
step-holds (is_blank n) s x m clear r p' m' h g t = absurd t
step-holds (is_shaped k) s x m shape r p' m' h g t = absurd t
step-holds (is_shaped k) s x m (line a b) r p' m' h g t =
    stays k s h x r p' m' t.1 (t.2 ∙ g.1) (subst (λ u. AllByRecursion (Right s.inputs s.memory) (given_out u)) (ap (λ u. line_answer k u a b) (sym g.1) ∙ sym t.0) (line-right k s h a b))
step-holds (is_shaped k) s x m (pay q own) r p' m' h g t =
    stays k s h x r p' m' t.3 (t.4 ∙ g.1)
    (subst (λ u. AllByRecursion (Right s.inputs s.memory) (given_out u)) (ap (λ u. pay_answer q (pay_leaves u k q own t.0) t.0) (sym g.0) ∙ sym t.2) (paid-right k s h q own t.0 (subst (λ u. Pays u k q own t.0) g.0 t.1)))
step-holds (is_shaped k) s x m (waive q) r p' m' h g t =
    stays k s h x r p' m' t.1 (t.2 ∙ g.1) (subst (λ u. AllByRecursion (Right s.inputs s.memory) (given_out u)) (sym t.0) (waive-right s.inputs s.memory q (foreign k q)))
step-holds (is_shaped k) s x m clear r p' m' h g t = clears k s h x r p' m' (nat_lt 0 k.owed) t.0 t.1 (t.2 ∙ g.1)

pub holds : {n : ℕ} {calls : List (Call × Answer)} {p : Paragraph} {s : Since p} → History n calls p s → Holds p s
holds made = tt
holds (next {calls = calls} {p = p} {s = s} x m c r p' m' h g t) = step-holds p s x m c r p' m' (holds h) g t

-- THE LAW
pub outlasts : (k : Shaped) (s : Course) → Sound k s → Outlasts k s
outlasts k s h =
    let x : Inputs = s.inputs in
    let run = glyphs-are k s h in
    let marks = marks-are k s h in (
      h.unwritten,
      h.right,
      λ cuts free.
          let here : Cuts h.w.marks 0 (length x.text) cuts = subst₂ (λ ms n. Cuts ms 0 n cuts) marks h.size free in
          let cut = cut-in-pieces (shaping_inputs x s.memory) x.text h.w cuts h.shapes here in
          let sums = sums-of-pieces (shaping_inputs x s.memory) x.text h.w cuts cut.0 h.shapes here cut.1 in (
            cut.0,
            each-alone x s.memory x.text h.ready (pieces 0 cuts x.text) cut.0 (pieces-shorter 0 cuts x.text) cut.1,
            run ∙ ap (λ w. w.run) cut.2,
            marks ∙ ap (λ w. w.marks) cut.2,
            h.count ∙ sums.0,
            h.hits ∙ sums.1,
            ap (run_width x.source.advance) run ∙ sums.2 x.source.advance,
          ),
    )

pub law : CuttingLaw
law number calls k s history = outlasts k s (holds history)
