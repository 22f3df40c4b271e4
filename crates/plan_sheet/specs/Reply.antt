-- What the program writes for a sheet. 01: it "writes the plan; on refusal it writes one field of tag E0".
use Rattle.std.specs.Prelude.{ℕ, List}
use Rattle.sheet.specs.Read.{read_sheet}
use Rattle.planner.specs.Call.{sheet_answer, sheet_plan}
use Rattle.reply.specs.Reply.{reply_bytes}

-- with buffers that are large enough (planner, Outcomes.antt)
unfoldable pub sheet_reply : List ℕ → List ℕ
sheet_reply sheet = reply_bytes (sheet_answer (read_sheet sheet)) (sheet_plan (read_sheet sheet))
