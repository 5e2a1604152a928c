-- Working a list of calls, one more at a time. Assumes nothing.
use Rattle.std.proofs.Common.{◌≡◌, ℕ, List, [], ◌∷◌, ◌++◌, length, sym, refl, ap, ◌∙◌, subst, arith}
use Rattle.model.specs.Content.{Request}
use Rattle.model.specs.Tree.{Tree}
use Rattle.model.specs.Points.{Point}
use Rattle.model.specs.Law.{Call, Reply, reply, after}
use Rattle.model.specs.Conversation.{Exchange}
use Rattle.enquiry.specs.declared.enquiry.Enquiry.{Enquiry}
use Rattle.enquiry.specs.Calls.{content, Works}
use Rattle.enquiry.specs.Runs.{Run, by_call}
use Rattle.enquiry.specs.Worked.{replies, after_all, said, Worked}

module _ (q : Request) (tree : Tree) (point : Point) where
  replies_more : (k : ℕ) (cs : List Call) (c : Call) → replies q tree point k (cs ++ c ∷ []) ≡ replies q tree point k cs ++ reply q tree point c (after_all q tree point k cs) ∷ []
  replies_more k [] c = refl
  replies_more k (d ∷ cs) c = ap {B = List Reply} (λ rs. reply q tree point d k ∷ rs) (replies_more (after q tree point d k) cs c)

  after_more : (k : ℕ) (cs : List Call) (c : Call) → after_all q tree point k (cs ++ c ∷ []) ≡ after q tree point c (after_all q tree point k cs)
  after_more k [] c = refl
  after_more k (d ∷ cs) c = after_more (after q tree point d k) cs c

said_more : (cs : List Call) (rs : List Reply) (c : Call) (a : Reply) (past : List Exchange) → length cs ≡ length rs
    → said (cs ++ c ∷ []) (rs ++ a ∷ []) past ≡ record { call = c; answer = a } ∷ said cs rs past
said_more [] [] c a past e = refl
said_more [] (r ∷ rs) c a past e = absurd (omega arith)
said_more (d ∷ cs) [] c a past e = absurd (omega arith)
said_more (d ∷ cs) (r ∷ rs) c a past e = said_more cs rs c a (record { call = d; answer = r } ∷ past) (omega arith)

module _ (tree : Tree) (point : Point) (e : Enquiry) where
  pub nothing_worked : Worked tree point e [] [] e
  nothing_worked = record {
    answers = λ standing. record { replies = refl; handed = refl; content = refl; standing = standing };
    run = λ from past run. run;
  }

  pub one_more_worked : (cs : List Call) (rs : List Reply) (e' e'' : Enquiry) (c : Call) (a : Reply) → length cs ≡ length rs → Worked tree point e cs rs e'
      → Works tree point e' c a e'' → Worked tree point e (cs ++ c ∷ []) (rs ++ a ∷ []) e''
  one_more_worked cs rs e' e'' c a long w h = record {
    answers = λ standing.
        let so_far = w.answers standing in
        let next = h so_far.standing in
        let q = content e in
        let k = e.handed in
        record {
          replies =
              (λ i. so_far.replies i ++ next.answer i ∷ [])
              ∙ (λ i. replies q tree point k cs ++ reply (so_far.content i) tree point c (so_far.handed i) ∷ [])
              ∙ sym (replies_more q tree point k cs c);
          handed = next.handed ∙ (λ i. after (so_far.content i) tree point c (so_far.handed i)) ∙ sym (after_more q tree point k cs c);
          content = next.content ∙ so_far.content;
          standing = next.standing;
        };
    run = λ from past run.
        subst (λ l. Run tree point from l e'') (sym (said_more cs rs c a past long)) (by_call (w.run from past run) h);
  }
