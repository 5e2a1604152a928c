-- What every run keeps, by induction on the run. Assumes nothing.
use Rattle.std.proofs.Common.{◌≡◌, ℕ, List, [], ◌∷◌, map, length, take, drop, Ok, sym, refl, ap, ◌∙◌, subst, arith}
use Rattle.model.specs.Content.{Request, read_request}
use Rattle.model.specs.Tree.{Tree, Limits}
use Rattle.model.specs.Points.{Point}
use Rattle.model.specs.Rows.{spots, rows}
use Rattle.model.specs.Law.{Call, Reply, all_permit, reply, after}
use Rattle.model.specs.Conversation.{Exchange, Holds, rows_out, conversation}
use Rattle.model.proofs.Conversed.{every_conversation_holds}
use Rattle.enquiry.specs.declared.enquiry.Enquiry.{Enquiry}
use Rattle.cursor.specs.Ahead.{ahead, Over}
use Rattle.enquiry.specs.Calls.{content, Source, Standing, Starts, Unchanged, Answers}
use Rattle.enquiry.specs.Runs.{Run, start, by_call, by_refusal, Law}

abbrev call_made : Exchange → Call
call_made x = x.call

abbrev calls : List Exchange → List Call
calls past = map call_made past

pub unchanged_stands : (tree : Tree) (point : Point) (e e' : Enquiry) → Unchanged e e' → Standing tree point e → Standing tree point e'
unchanged_stands tree point e e' u s = record {
  source = subst Source (sym u.content) s.source;
  over = subst (λ c. Over tree (content e') c) (sym u.cursor) (subst (λ q. Over tree q e.cursor) (sym u.content) s.over);
  within = omega (arith, u.handed, s.within, ap (λ q. length (spots q tree)) u.content);
  ahead = (λ i. ahead tree (u.content i) (u.cursor i)) ∙ s.ahead ∙ sym (λ i. drop (u.handed i) (spots (u.content i) tree));
  permitted = u.permitted ∙ s.permitted ∙ sym (λ i. all_permit (take (u.handed i) (rows (u.content i) tree point)));
}

module _ (tree : Tree) (point : Point) (q : Request) where
  -- what was said is the conversation of the calls, and the enquiry stands where that leads
  record Kept (past : List Exchange) (e : Enquiry) : Type 0 where
    pub standing : Standing tree point e
    pub content : content e ≡ q
    pub handed : e.handed ≡ rows_out q tree point (calls past)
    pub said : past ≡ conversation q tree point (calls past)

  after_call : (past : List Exchange) (e e' : Enquiry) (call : Call) (a : Reply) → Kept past e → Answers tree point e call a e'
      → Kept (record { call = call; answer = a } ∷ past) e'
  after_call past e e' call a k w =
      let answer : a ≡ reply q tree point call (rows_out q tree point (calls past)) = w.answer ∙ (λ i. reply (k.content i) tree point call (k.handed i)) in
      record {
        standing = w.standing;
        content = w.content ∙ k.content;
        handed = w.handed ∙ (λ i. after (k.content i) tree point call (k.handed i));
        said = λ i. record { call = call; answer = answer i } ∷ k.said i;
      }

  kept : (e : Enquiry) → Kept [] e → {past : List Exchange} {e' : Enquiry} → Run tree point e past e' → Kept past e'
  kept e k start = k
  kept e k (by_call {past} {e'} {e''} {call} {a} run w) = let m = kept e k run in after_call past e' e'' call a m (w m.standing)
  kept e k (by_refusal {past} {e'} {e''} run u) =
      let m = kept e k run in
      record {
        standing = unchanged_stands tree point e' e'' u m.standing;
        content = u.content ∙ m.content;
        handed = u.handed ∙ m.handed;
        said = m.said;
      }

-- an enquiry that stands before the first row of a request that was read keeps the law
pub law : (tree : Tree) (bytes : List ℕ) (e : Enquiry) → Limits tree → Ok (content e) ≡ read_request bytes → Starts tree e → Law tree (content e) e
law tree bytes e limits reads starts point past e' run =
    let q = content e in
    let k = kept tree point q e (record { standing = starts.standing point; content = refl; handed = starts.none_handed; said = refl }) run in
    subst (Holds q tree point) (sym k.said) (every_conversation_holds bytes q tree point (sym reads) limits (calls past))
