-- The next line, step by step.
use Rattle.std.proofs.Common.{◌≡◌, ◌+◌, ◌++◌, List, [], ℕ, length, refl, sym, ◌∙◌, ap, append-nil, arith, length-append}
use Rattle.std.specs.declared.option.Option.{Option}
use Rattle.std.specs.Io.KnownBytes.{Consumes}
use Rattle.poly_cli.specs.declared.lines.Lines.{Lines}
use Rattle.poly_cli.specs.declared.lines.Event.TheVariants.{Line, End, Fault}
use Rattle.poly_cli.specs.Cutting.{open_line}
use Rattle.poly_cli.specs.Buffered.{ahead, EndsLine, EndsNone, NextLine, Reads}
use Rattle.poly_cli.proofs.Cuts.{then_line, then_none, parts_cut, parts_read}
use Rattle.poly_cli.proofs.Known.{consumes_more}

-- what is known of the bytes that were cut so far, if none of them ended a line
pub record SoFar (old now : Lines) (left_old left : Option (List ℕ)) : Type 0 where
  pub piece : List ℕ
  pub taken : List ℕ
  pub consumed : Consumes left_old left taken
  pub counted : now.left + length taken ≡ old.left
  pub parts : ahead old ++ taken ≡ piece ++ ahead now
  pub limit : now.limit ≡ old.limit
  pub none : EndsNone now.limit [] piece now.line.items

pub found_line : (old mid new : Lines) (first left : Option (List ℕ)) (s : SoFar old mid first left) (p : List ℕ)
    → ahead mid ≡ p ++ ahead new → new.left ≡ mid.left → new.limit ≡ mid.limit → EndsLine mid.limit (open_line [] s.piece) p new.line.items → NextLine Line old new first left
found_line old mid new first left s p cut same limit ends = record {
  piece = s.piece ++ p;
  taken = s.taken;
  over = [];
  consumed = rw (append-nil s.taken) s.consumed;
  counted = rw same s.counted;
  parts = parts_cut (ahead old) s.taken s.piece p (ahead new) (ahead mid) s.parts cut;
  finds = (rw limit (then_line mid.limit s.piece p mid.line.items new.line.items s.none ends), refl);
}

pub found_end : (old now mid new : Lines) (first left last : Option (List ℕ)) (s : SoFar old now first left) (p : List ℕ)
    → ahead now ≡ p ++ ahead mid → mid.left ≡ now.left → mid.limit ≡ now.limit → EndsNone now.limit (open_line [] s.piece) p mid.line.items → ahead mid ≡ []
    → new.line ≡ mid.line → new.limit ≡ mid.limit → Reads End mid.left new.left left last (ahead new) → NextLine End old new first last
found_end old now mid new first left last s p cut same limit ends nothing line limit' read = record {
  piece = s.piece ++ p;
  taken = s.taken;
  over = [];
  consumed = consumes_more first left last s.taken [] s.consumed read.0;
  counted = rw (read.3, same) s.counted;
  parts = parts_cut (ahead old) s.taken s.piece p (ahead new) (ahead now) s.parts (cut ∙ ap (λ z. p ++ z) (nothing ∙ sym read.2));
  finds = (rw (line, limit', limit) (then_none now.limit s.piece p now.line.items mid.line.items s.none ends), read.2, read.1, refl);
}

pub found_fault : (old now mid new : Lines) (first left last : Option (List ℕ)) (s : SoFar old now first left) (p : List ℕ)
    → ahead now ≡ p ++ ahead mid → mid.left ≡ now.left → mid.limit ≡ now.limit → EndsNone now.limit (open_line [] s.piece) p mid.line.items → ahead mid ≡ []
    → new.line ≡ mid.line → new.limit ≡ mid.limit → Reads Fault mid.left new.left left last (ahead new) → NextLine Fault old new first last
found_fault old now mid new first left last s p cut same limit ends nothing line limit' read = record {
  piece = s.piece ++ p;
  taken = s.taken;
  over = read.0;
  consumed = consumes_more first left last s.taken read.0 s.consumed read.1;
  counted = rw (read.3, same) s.counted;
  parts = parts_cut (ahead old) s.taken s.piece p (ahead new) (ahead now) s.parts (cut ∙ ap (λ z. p ++ z) (nothing ∙ sym read.2));
  finds = (rw (line, limit', limit) (then_none now.limit s.piece p now.line.items mid.line.items s.none ends), read.2, read.4);
}

pub reads_on : (old now mid new : Lines) (first left last : Option (List ℕ)) (s : SoFar old now first left) (p : List ℕ)
    → ahead now ≡ p ++ ahead mid → mid.left ≡ now.left → mid.limit ≡ now.limit → EndsNone now.limit (open_line [] s.piece) p mid.line.items → ahead mid ≡ []
    → new.line ≡ mid.line → new.limit ≡ mid.limit → Reads Line mid.left new.left left last (ahead new) → SoFar old new first last
reads_on old now mid new first left last s p cut same limit ends nothing line limit' read = record {
  piece = s.piece ++ p;
  taken = s.taken ++ ahead new;
  consumed = consumes_more first left last s.taken (ahead new) s.consumed read.0;
  counted = omega (arith, length-append s.taken (ahead new), read.1, same, s.counted);
  parts = parts_read (ahead old) s.taken (ahead new) (s.piece ++ p) (ahead mid) (parts_cut (ahead old) s.taken s.piece p (ahead mid) (ahead now) s.parts cut) nothing;
  limit = limit' ∙ limit ∙ s.limit;
  none = rw (line, limit', limit) (then_none now.limit s.piece p now.line.items mid.line.items s.none ends);
}
