-- Use of a path: no step carries it over what is posted. It rises only where it is tested.
use mathlib.Core.Path.{◌≡◌, refl, sym, ap, ◌∙◌, subst}
use mathlib.Core.Logic.{◌≢◌}
use mathlib.Core.Bool.{Bool, true, false, ◌&&◌, ◌||◌, not}
use Prim.Native.Nat.{ℕ, suc, ◌+◌, ◌-◌, ◌≤◌, ◌<◌}
use native.Mathlib.Decide.{ℕ_discrete}
use native.Mathlib.Omega.{arith}
use borrow.Author.Tests.{eqb-true, eq-eqb}
use lib.Dec.{eqb}
use Rattle.column.specs.Sum.{gate, sum_to}
use Rattle.column.specs.Column.{Col}
use Rattle.column.specs.Use.{holds_on, counts_on, counts_by, counted, use_of, Within, Tested}
use Rattle.column.specs.Step.{Keeps, Still, Same, Submit, Top, Child, Give, AnnulChild, Reduce, Step, Fresh, same, submit, quiet, top, child, give, annul_top, annul_child, displace, reduce}
use Rattle.column.proofs.Sums.{eqb_same, eqb_other, gate_le, sum_ext, sum_le, sum_zero, sum_suc, sum_le_two}
use Rattle.column.proofs.Flow.{Shape, by_one}

-- ---- tests
and_true : (b c : Bool) → (b && c) ≡ true → (b ≡ true) × (c ≡ true)
and_true true c e = (refl, e)
and_true false c e = (e, cc)

true_and : (b c : Bool) → b ≡ true → c ≡ true → (b && c) ≡ true
true_and b c p q = ap (λ x. x && c) p ∙ q

-- a test that is no weaker, of a number that is no greater
gate_mono : (b b' : Bool) {x x' : ℕ} → (b' ≡ true → b ≡ true) → x' ≤ x → gate b' x' ≤ gate b x
gate_mono true b' {x} {x'} f l = omega (arith, gate_le b' x')
gate_mono false true f l = absurd (never (f refl))
  where
    never : ◌≡◌ {A = Bool} false true → ⊥
    never z = let y : ◌≡◌ {A = ℕ} 0 1 = cc in omega arith
gate_mono false false f l = omega arith

-- ---- by_one row
-- a row that is not CONFIRMED counts nowhere; by_one of another path counts only as a type 5
counted_off : (S : Col) (x n : ℕ) → S.st n ≢ 13 → counted S x n ≡ 0
counted_off S x n e = ap (λ b. gate (b && (eqb (S.path n) x || eqb (S.ty n) 5 && holds_on S x (S.ref n - 1))) (S.a n)) (eqb_other e)

and_none : (b : Bool) → (b && false) ≡ false
and_none true = refl
and_none false = refl

counted_apart : (S : Col) (x n : ℕ) → S.path n ≢ x → S.ty n ≢ 5 → counted S x n ≡ 0
counted_apart S x n e t =
    ap (λ b. gate (eqb (S.st n) 13 && (b || eqb (S.ty n) 5 && holds_on S x (S.ref n - 1))) (S.a n)) (eqb_other e)
    ∙ ap (λ b. gate (eqb (S.st n) 13 && (b && holds_on S x (S.ref n - 1))) (S.a n)) (eqb_other t)
    ∙ ap (λ b. gate b (S.a n)) (and_none (eqb (S.st n) 13))

-- a type 5 of another path that is related to a row of another path
counted_return : (S : Col) (x n p : ℕ) → S.path n ≢ x → S.ref n ≡ suc p → S.path p ≢ x → counted S x n ≡ 0
counted_return S x n p e r t =
    let up : S.ref n - 1 ≡ p = omega (arith, r) in
    ap (λ b. gate (eqb (S.st n) 13 && (b || eqb (S.ty n) 5 && holds_on S x (S.ref n - 1))) (S.a n)) (eqb_other e)
    ∙ ap (λ m. gate (eqb (S.st n) 13 && (eqb (S.ty n) 5 && holds_on S x m)) (S.a n)) up
    ∙ ap (λ b. gate (eqb (S.st n) 13 && (eqb (S.ty n) 5 && (eqb (S.st p) 13 && b))) (S.a n)) (eqb_other t)
    ∙ ap (λ b. gate (eqb (S.st n) 13 && (eqb (S.ty n) 5 && b)) (S.a n)) (and_none (eqb (S.st p) 13))
    ∙ ap (λ b. gate (eqb (S.st n) 13 && b) (S.a n)) (and_none (eqb (S.ty n) 5))
    ∙ ap (λ b. gate b (S.a n)) (and_none (eqb (S.st n) 13))

-- ---- no row rises
-- row m holds on path x after the step only where it did before
abbrev Eased : Col → Col → ℕ → ℕ → Type 0
Eased S S' x m = holds_on S' x m ≡ true → holds_on S x m ≡ true

eased : (S S' : Col) (x m : ℕ) → S'.path m ≡ S.path m → (S'.st m ≡ 13 → S.st m ≡ 13) → Eased S S' x m
eased S S' x m p s e =
    let h = and_true (eqb (S'.st m) 13) _ e in
    true_and (eqb (S.st m) 13) _ (eq-eqb _ _ (s (eqb-true _ _ h.0))) (eq-eqb _ _ (sym p ∙ eqb-true _ _ h.1))

-- of another path
eased_apart : (S S' : Col) (x m : ℕ) → S'.path m ≡ S.path m → S.path m ≢ x → Eased S S' x m
eased_apart S S' x m p ne e = absurd (ne (sym p ∙ eqb-true _ _ (and_true (eqb (S'.st m) 13) _ e).1))

or_mono : (b c b' c' : Bool) → (b' ≡ true → b ≡ true) → (c' ≡ true → c ≡ true) → (b' || c') ≡ true → (b || c) ≡ true
or_mono true c b' c' f g e = refl
or_mono false c true c' f g e = ap (λ b. b || c) (f refl)
or_mono false c false c' f g e = g e

-- a row that keeps its type, reference and path, and has no more available
counted_le : (S S' : Col) (x n : ℕ) → S'.path n ≡ S.path n → S'.ty n ≡ S.ty n → S'.ref n ≡ S.ref n → (S'.st n ≡ 13 → S.st n ≡ 13) → S'.a n ≤ S.a n
    → Eased S S' x (S.ref n - 1) → counted S' x n ≤ counted S x n
counted_le S S' x n p t r s a E = gate_mono (counts_on S x n) (counts_on S' x n) counts a
  where
    above : (eqb (S'.ty n) 5 && holds_on S' x (S'.ref n - 1)) ≡ true → (eqb (S.ty n) 5 && holds_on S x (S.ref n - 1)) ≡ true
    above e =
        let h = and_true (eqb (S'.ty n) 5) _ e in
        true_and (eqb (S.ty n) 5) _ (eq-eqb _ _ (sym t ∙ eqb-true _ _ h.0)) (E (ap (λ m. holds_on S' x (m - 1)) (sym r) ∙ h.1))

    counts : counts_on S' x n ≡ true → counts_on S x n ≡ true
    counts e =
        let h = and_true (eqb (S'.st n) 13) _ e in
        true_and (eqb (S.st n) 13) _ (eq-eqb _ _ (s (eqb-true _ _ h.0)))
        (or_mono (eqb (S.path n) x) _ (eqb (S'.path n) x) _ (λ q. eq-eqb _ _ (sym p ∙ eqb-true _ _ q)) above h.1)

module _ {S S' : Col} (K : Keeps S S') (x : ℕ) (E : (m : ℕ) → Eased S S' x m) where
  -- a row in which nothing rises, and by_one that stays
  no_more : (n : ℕ) → (S'.st n ≡ 13 → S.st n ≡ 13) → S'.a n ≤ S.a n → counted S' x n ≤ counted S x n
  no_more n s a = counted_le S S' x n (K.path n) (K.ty n) (K.ref n) s a (E (S.ref n - 1))

  stays : (n : ℕ) → Still S S' n → counted S' x n ≤ counted S x n
  stays n T = no_more n (λ e. sym T.st ∙ e) (omega (arith, T.a))

  all_le : ((n : ℕ) → counted S' x n ≤ counted S x n) → use_of S' x ≤ use_of S x
  unfolding use_of
  all_le f =
      omega (
        arith,
        ap (λ m. sum_to m (λ n. counted S' x n)) K.used,
        sum_le S.used (λ n. counted S' x n) (λ n. counted S x n) (λ n l. f n),
      )

  all_two : (c q : ℕ) → c < S.used → q < S.used → c ≢ q → ((n : ℕ) → n ≢ c → n ≢ q → counted S' x n ≤ counted S x n) → counted S' x c + counted S' x q ≤ counted S x c + counted S x q → use_of S' x ≤ use_of S x
  unfolding use_of
  all_two c q lc lq ne f t =
      omega (
        arith,
        ap (λ m. sum_to m (λ n. counted S' x n)) K.used,
        sum_le_two S.used c q (λ n. counted S x n) (λ n. counted S' x n) lc lq ne f t,
      )

-- ---- each step, and a path that is not tested
module _ {S S' : Col} (x : ℕ) where
  -- only the row c stops or starts to be CONFIRMED
  others : (c : ℕ) → Keeps S S' → ((n : ℕ) → n ≢ c → S'.st n ≡ S.st n) → Eased S S' x c → (m : ℕ) → Eased S S' x m
  others c K s e = by_one (Eased S S' x) c e (λ m ne. eased S S' x m (K.path m) (λ q. sym (s m ne) ∙ q))

  -- the row c is not CONFIRMED after the step
  ends : (c : ℕ) → Keeps S S' → S'.st c ≢ 13 → ((n : ℕ) → n ≢ c → Still S S' n) → use_of S' x ≤ use_of S x
  ends c K off rest =
      let E = others c K (λ n ne. (rest n ne).st) (eased S S' x c (K.path c) (λ q. absurd (off q))) in
      all_le K x E (by_one (λ n. counted S' x n ≤ counted S x n) c (omega (arith, counted_off S' x c off)) (λ n ne. stays K x E n (rest n ne)))

  same_eases : Same S S' → use_of S' x ≤ use_of S x
  same_eases D =
      let E : (m : ℕ) → Eased S S' x m = λ m. eased S S' x m (D.keeps.path m) (λ q. sym (D.rest m).st ∙ q) in
      all_le D.keeps x E (λ n. stays D.keeps x E n (D.rest n))

  reduce_eases : {c y : ℕ} → Reduce S S' c y → use_of S' x ≤ use_of S x
  reduce_eases {c} {y} D =
      let E = others c D.keeps (λ n ne. (D.rest n ne).st) (eased S S' x c (D.keeps.path c) (λ q. D.before)) in
      all_le D.keeps x E
      (by_one (λ n. counted S' x n ≤ counted S x n) c (no_more D.keeps x E c (λ q. D.before) (omega (arith, D.a))) (λ n ne. stays D.keeps x E n (D.rest n ne)))

  top_eases : {c : ℕ} → Top S S' c → S.path c ≢ x → use_of S' x ≤ use_of S x
  top_eases {c} C ne =
      let K = C.keeps in
      let E = others c K (λ n k. (C.rest n k).st) (eased_apart S S' x c (K.path c) ne) in
      all_le K x E
      (by_one (λ n. counted S' x n ≤ counted S x n) c
      (omega (arith, counted_apart S' x c (λ q. ne (sym (K.path c) ∙ q)) (λ q. omega (arith, q, K.ty c, C.type)))) (λ n k. stays K x E n (C.rest n k)))

  child_eases : {c p : ℕ} → Child S S' c p → S.path c ≢ x → S.path p ≢ x → use_of S' x ≤ use_of S x
  child_eases {c} {p} C nc np =
      let K = C.keeps in
      let E = others c K (λ n ne. by_one (λ m. m ≢ c → S'.st m ≡ S.st m) p (λ _. C.p_after ∙ sym C.p_before) (λ m mp mc. (C.rest m mc mp).st) n ne) (eased_apart S S' x c (K.path c) nc) in
      all_le K x E
      (by_one (λ n. counted S' x n ≤ counted S x n) c
      (omega (arith, counted_return S' x c p (λ q. nc (sym (K.path c) ∙ q)) (K.ref c ∙ C.parent) (λ q. np (sym (K.path p) ∙ q))))
      (λ n nn. by_one (λ m. m ≢ c → counted S' x m ≤ counted S x m) p
      (λ _. no_more K x E p (λ q. C.p_before) (omega (arith, C.p_a))) (λ m mp mc. stays K x E m (C.rest m mc mp)) n nn))

  annul_child_eases : {c p : ℕ} → AnnulChild S S' c p → Shape S → S.path p ≢ x → use_of S' x ≤ use_of S x
  annul_child_eases {c} {p} A H np =
      let K = A.keeps in
      let E = others c K (λ n ne. by_one (λ m. m ≢ c → S'.st m ≡ S.st m) p (λ _. A.p_st) (λ m mp mc. (A.rest m mc mp).st) n ne) (eased S S' x c (K.path c) (λ q. absurd (A.after.0 q))) in
      all_le K x E
      (by_one (λ n. counted S' x n ≤ counted S x n) c
      (omega (arith, counted_off S' x c A.after.0))
      (λ n nn. by_one (λ m. m ≢ c → counted S' x m ≤ counted S x m) p
      (λ _. omega (arith, counted_apart S' x p (λ q. np (sym (K.path p) ∙ q)) (λ q. (H.under c p A.parent A.type).0 (sym (K.ty p) ∙ q))))
      (λ m mp mc. stays K x E m (A.rest m mc mp)) n nn))

  -- a relinquish record: the redirect q gives to the row p, and both count to the path of p where p is CONFIRMED
  give_eases : {c q p : ℕ} → Give S S' c q p → Shape S → S.path c ≢ x → S.path q ≢ x → use_of S' x ≤ use_of S x
  give_eases {c} {q} {p} G H nc nq = go (ℕ_discrete (S.path p) x) (ℕ_discrete (S.st p) 13)
    where
      K : Keeps S S'
      K = G.keeps

      low_q : q < c
      low_q = omega (arith, G.parent, H.lower c)

      low_p : p < q
      low_p = omega (arith, G.grand, H.lower q)

      bends : S.ty q ≡ 5
      bends = H.under5 c q G.parent G.type

      no_5 : S'.ty p ≢ 5
      no_5 z = (H.under q p G.grand (λ z. omega (arith, z, bends))).0 (sym (K.ty p) ∙ z)

      sts : (n : ℕ) → n ≢ c → S'.st n ≡ S.st n
      sts n ne =
          by_one (λ m. m ≢ c → S'.st m ≡ S.st m) q (λ _. G.q_after ∙ sym G.q_before)
          (λ m mq. by_one (λ k. k ≢ q → k ≢ c → S'.st k ≡ S.st k) p (λ _ _. G.p_st) (λ k kp kq kc. (G.rest k kc kq kp).st) m mq) n ne

      E : (m : ℕ) → Eased S S' x m
      E = others c K sts (eased_apart S S' x c (K.path c) nc)

      own : counted S' x c ≤ counted S x c
      own = omega (arith, counted_apart S' x c (λ z. nc (sym (K.path c) ∙ z)) (λ z. omega (arith, z, K.ty c, G.type)))

      -- where the row p does not count after the step
      none : counted S' x p ≡ 0 → use_of S' x ≤ use_of S x
      none z =
          all_le K x E
          (by_one (λ n. counted S' x n ≤ counted S x n) c own
          (λ n nn. by_one (λ m. m ≢ c → counted S' x m ≤ counted S x m) q (λ _. no_more K x E q (λ _. G.q_before) (omega (arith, G.q_a)))
          (λ m mq. by_one (λ k. k ≢ q → k ≢ c → counted S' x k ≤ counted S x k) p (λ _ _. omega (arith, z)) (λ k kp kq kc. stays K x E k (G.rest k kc kq kp)) m mq) n nn))

      -- where it counts, and so does the redirect
      holds : (T : Col) → T.st p ≡ 13 → T.path p ≡ x → holds_on T x p ≡ true
      holds T a b = true_and (eqb (T.st p) 13) _ (eq-eqb _ _ a) (eq-eqb _ _ b)

      own_path : (T : Col) → T.st p ≡ 13 → T.path p ≡ x → counted T x p ≡ T.a p
      own_path T a b =
          ap (λ t. gate (t && (eqb (T.path p) x || eqb (T.ty p) 5 && holds_on T x (T.ref p - 1))) (T.a p)) (eq-eqb _ _ a)
          ∙ ap (λ t. gate (t || eqb (T.ty p) 5 && holds_on T x (T.ref p - 1)) (T.a p)) (eq-eqb _ _ b)

      or_true : (b : Bool) → (b || true) ≡ true
      or_true true = refl
      or_true false = refl

      returns : (T : Col) → T.st q ≡ 13 → T.ty q ≡ 5 → T.ref q ≡ suc p → T.st p ≡ 13 → T.path p ≡ x → counted T x q ≡ T.a q
      returns T a t r b e =
          let up : T.ref q - 1 ≡ p = omega (arith, r) in
          ap (λ z. gate (z && (eqb (T.path q) x || eqb (T.ty q) 5 && holds_on T x (T.ref q - 1))) (T.a q)) (eq-eqb _ _ a)
          ∙ ap (λ z. gate (eqb (T.path q) x || z && holds_on T x (T.ref q - 1)) (T.a q)) (eq-eqb _ _ t)
          ∙ ap (λ m. gate (eqb (T.path q) x || holds_on T x m) (T.a q)) up
          ∙ ap (λ z. gate (eqb (T.path q) x || z) (T.a q)) (holds T b e)
          ∙ ap (λ z. gate z (T.a q)) (or_true (eqb (T.path q) x))

      go : Dec (S.path p ≡ x) → Dec (S.st p ≡ 13) → use_of S' x ≤ use_of S x
      go (no e) d = none (counted_apart S' x p (λ z. e (sym (K.path p) ∙ z)) no_5)
      go (yes e) (no d) = none (counted_off S' x p (λ z. d (sym G.p_st ∙ z)))
      go (yes e) (yes d) =
          let e' : S'.path p ≡ x = K.path p ∙ e in
          let d' : S'.st p ≡ 13 = G.p_st ∙ d in
          all_two K x E q p (omega (arith, low_q, G.in_use)) (omega (arith, low_q, low_p, G.in_use)) (λ z. omega (arith, z, low_p))
          (λ n mq mp. by_one (λ k. k ≢ q → k ≢ p → counted S' x k ≤ counted S x k) c (λ _ _. own) (λ k kc kq kp. stays K x E k (G.rest k kc kq kp)) n mq mp)
          (omega (
            arith,
            returns S G.q_before bends G.grand d e,
            returns S' G.q_after (K.ty q ∙ bends) (K.ref q ∙ G.grand) d' e',
            own_path S d e,
            own_path S' d' e',
            G.q_a,
            G.p_a d,
          ))

  submit_eases : Submit S S' → Shape S → use_of S' x ≤ use_of S x
  unfolding use_of
  submit_eases N H =
      omega (
        arith,
        ap (λ m. sum_to m (λ n. counted S' x n)) N.used,
        sum_suc S.used (λ n. counted S' x n),
        counted_off S' x S.used N.st.0,
        sum_le S.used (λ n. counted S' x n) (λ n. counted S x n) term,
      )
    where
      holds : (m : ℕ) → m ≢ S.used → Eased S S' x m
      holds m ne = eased S S' x m (N.path m ne) (λ q. sym (N.rest m ne).st ∙ q)

      term : (n : ℕ) → n < S.used → counted S' x n ≤ counted S x n
      term n l =
          let ne : n ≢ S.used = λ z. omega (arith, z, l) in
          counted_le S S' x n (N.path n ne) (N.ty n ne) (N.ref n ne) (λ q. sym (N.rest n ne).st ∙ q) (omega (arith, (N.rest n ne).a))
          (holds (S.ref n - 1) (λ z. omega (arith, z, l, H.lower n)))

-- ---- use stays within what is posted
module _ {B : ℕ → ℕ} {S : Col} (W : Within B S) (S' : Col) where
  easing : ((x : ℕ) → use_of S' x ≤ use_of S x) → Within B S'
  easing f = record { use_of_lem = λ x g. omega (arith, f x, W.use_of_lem x g) }

  -- a path that is tested, or another
  tested : (c : ℕ) → Tested B S S' c → ((x : ℕ) → S.path c ≢ x → use_of S' x ≤ use_of S x) → Within B S'
  tested c T f = record { use_of_lem = λ x g. go x g (ℕ_discrete (S.path c) x) }
    where
      go : (x : ℕ) → 1 ≤ x → Dec (S.path c ≡ x) → use_of S' x ≤ B x
      go x g (yes e) = subst (λ y. use_of S' y ≤ B y) e T.own
      go x g (no e) = omega (arith, f x e, W.use_of_lem x g)

  tested_above : (c p : ℕ) → Tested B S S' c → S.ref c ≡ suc p → ((x : ℕ) → S.path c ≢ x → S.path p ≢ x → use_of S' x ≤ use_of S x) → Within B S'
  tested_above c p T r f = record { use_of_lem = λ x g. go x g (ℕ_discrete (S.path c) x) (ℕ_discrete (S.path p) x) }
    where
      go : (x : ℕ) → 1 ≤ x → Dec (S.path c ≡ x) → Dec (S.path p ≡ x) → use_of S' x ≤ B x
      go x g (yes e) d = subst (λ y. use_of S' y ≤ B y) e T.own
      go x g (no e) (yes d) = subst (λ y. use_of S' y ≤ B y) d (T.above p r)
      go x g (no e) (no d) = omega (arith, f x e d, W.use_of_lem x g)

pub step_within : {B : ℕ → ℕ} {S S' : Col} → Step B S S' → Shape S → Within B S → Within B S'
step_within {S' = S'} (same D) H W = easing W S' (λ x. same_eases x D)
step_within {S' = S'} (submit N) H W = easing W S' (λ x. submit_eases x N H)
step_within {S' = S'} (quiet c Q) H W = easing W S' (λ x. ends x c Q.keeps Q.after.0 Q.rest)
step_within {S' = S'} (top c C T) H W = tested W S' c T (λ x e. top_eases x C e)
step_within {S' = S'} (child c p C T) H W = tested_above W S' c p T C.parent (λ x e d. child_eases x C e d)
step_within {S' = S'} (give c q p G T) H W = tested_above W S' c q T G.parent (λ x e d. give_eases x G H e d)
step_within {S' = S'} (annul_top c A) H W = easing W S' (λ x. ends x c A.keeps A.after.0 A.rest)
step_within {S' = S'} (annul_child c p A T) H W = tested_above W S' c p T A.parent (λ x e d. annul_child_eases x A H d)
step_within {S' = S'} (displace c D) H W = easing W S' (λ x. ends x c D.keeps (λ q. omega (arith, q, D.after)) D.rest)
step_within {S' = S'} (reduce c y D) H W = easing W S' (λ x. reduce_eases x D)

-- no row, no use
pub fresh_within : {B : ℕ → ℕ} {S : Col} → Fresh S → Within B S
unfolding use_of
fresh_within {B} {S} F =
    record { use_of_lem = λ x g. omega (arith, sum_zero S.used (λ n. counted S x n) (λ n l. counted_off S x n (λ q. omega (arith, q, F.st n)))) }

-- a posting for path x
pub post_within : {B B' : ℕ → ℕ} {S : Col} (x : ℕ) → ((y : ℕ) → 1 ≤ y → y ≢ x → B' y ≡ B y) → use_of S x ≤ B' x → Within B S → Within B' S
post_within {B} {B'} {S} x e u W = record { use_of_lem = by_one (λ y. 1 ≤ y → use_of S y ≤ B' y) x (λ g. u) (λ y ne g. omega (arith, W.use_of_lem y g, e y g ne)) }

-- ---- use after a step, from the column before it
-- the statuses of the rows that a step is not about stay
pub child_statuses : {S S' : Col} {c p : ℕ} → Child S S' c p → (n : ℕ) → n ≢ c → S'.st n ≡ S.st n
child_statuses {S} {S'} {c} {p} C = by_one (λ m. m ≢ c → S'.st m ≡ S.st m) p (λ _. C.p_after ∙ sym C.p_before) (λ m mp mc. (C.rest m mc mp).st)

pub annul_child_statuses : {S S' : Col} {c p : ℕ} → AnnulChild S S' c p → (n : ℕ) → n ≢ c → S'.st n ≡ S.st n
annul_child_statuses {S} {S'} {c} {p} A = by_one (λ m. m ≢ c → S'.st m ≡ S.st m) p (λ _. A.p_st) (λ m mp mc. (A.rest m mc mp).st)

pub give_statuses : {S S' : Col} {c q p : ℕ} → Give S S' c q p → (n : ℕ) → n ≢ c → S'.st n ≡ S.st n
give_statuses {S} {S'} {c} {q} {p} G =
    by_one (λ m. m ≢ c → S'.st m ≡ S.st m) q (λ _. G.q_after ∙ sym G.q_before)
    (λ m mq. by_one (λ k. k ≢ q → k ≢ c → S'.st k ≡ S.st k) p (λ _ _. G.p_st) (λ k kp kq kc. (G.rest k kc kq kp).st) m mq)

-- so the rows that are CONFIRMED after it are c too, or all but c
module _ (S S' : Col) (c : ℕ) (rest : (n : ℕ) → n ≢ c → S'.st n ≡ S.st n) where
  pub confirmed_now : S'.st c ≡ 13 → (n : ℕ) → eqb (S'.st n) 13 ≡ (eqb n c || eqb (S.st n) 13)
  confirmed_now e =
      by_one (λ n. eqb (S'.st n) 13 ≡ (eqb n c || eqb (S.st n) 13)) c (eq-eqb _ _ e ∙ sym (ap (λ b. b || eqb (S.st c) 13) (eqb_same c)))
      (λ n ne. ap (λ s. eqb s 13) (rest n ne) ∙ sym (ap (λ b. b || eqb (S.st n) 13) (eqb_other ne)))

  pub annulled_now : S'.st c ≢ 13 → (n : ℕ) → eqb (S'.st n) 13 ≡ (not (eqb n c) && eqb (S.st n) 13)
  annulled_now e =
      by_one (λ n. eqb (S'.st n) 13 ≡ (not (eqb n c) && eqb (S.st n) 13)) c (eqb_other e ∙ sym (ap (λ b. not b && eqb (S.st c) 13) (eqb_same c)))
      (λ n ne. ap (λ s. eqb s 13) (rest n ne) ∙ sym (ap (λ b. not b && eqb (S.st n) 13) (eqb_other ne)))

-- the rows that confirmed names are CONFIRMED after the step, and then have what held says
module _ {S S' : Col} (K : Keeps S S') (confirmed : ℕ → Bool) (now : (n : ℕ) → eqb (S'.st n) 13 ≡ confirmed n) where
  counts_are : (x n : ℕ) → counts_on S' x n ≡ counts_by S confirmed x n
  counts_are x n =
      ap (λ b. b && (eqb (S'.path n) x || eqb (S'.ty n) 5 && holds_on S' x (S'.ref n - 1))) (now n)
      ∙ ap (λ p. confirmed n && (eqb p x || eqb (S'.ty n) 5 && holds_on S' x (S'.ref n - 1))) (K.path n)
      ∙ ap (λ t. confirmed n && (eqb (S.path n) x || eqb t 5 && holds_on S' x (S'.ref n - 1))) (K.ty n)
      ∙ ap (λ r. confirmed n && (eqb (S.path n) x || eqb (S.ty n) 5 && holds_on S' x (r - 1))) (K.ref n)
      ∙ ap (λ b. confirmed n && (eqb (S.path n) x || eqb (S.ty n) 5 && (b && eqb (S'.path (S.ref n - 1)) x))) (now (S.ref n - 1))
      ∙ ap (λ p. confirmed n && (eqb (S.path n) x || eqb (S.ty n) 5 && (confirmed (S.ref n - 1) && eqb p x))) (K.path (S.ref n - 1))

  -- a test behind another, of numbers that are equal where the first holds
  gate_same : (b c : Bool) (u v : ℕ) → (b ≡ true → u ≡ v) → gate (b && c) u ≡ gate (b && c) v
  gate_same true c u v f = ap (gate c) (f refl)
  gate_same false c u v f = refl

  pub use_after : (held : ℕ → ℕ) → ((n : ℕ) → confirmed n ≡ true → S'.a n ≡ held n) → (x : ℕ) → use_of S' x ≡ sum_to S.used (λ n. gate (counts_by S confirmed x n) (held n))
  unfolding use_of
  use_after held is x =
      ap (λ m. sum_to m (λ n. counted S' x n)) K.used
      ∙ sum_ext S.used _ _ (λ n l. ap (λ b. gate b (S'.a n)) (counts_are x n) ∙ gate_same (confirmed n) _ (S'.a n) (held n) (is n))
